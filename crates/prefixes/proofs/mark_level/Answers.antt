-- `prefixes::mark_level` meets its contract: up to ten atoms are one block, and of more the last ten are a block's. Assumes nothing.
use mathlib.Core.Path.{◌≡◌, sym, subst}
use Prim.Native.Nat.{ℕ, ◌+◌, ◌-◌, ◌*◌, ◌^◌, ◌≤◌}
use lib.ListN.{length}
use native.Mathlib.Omega.{arith}
use Rattle.prefixes.specs.Filled.{Fills}
use Rattle.prefixes.proofs.mark_level.Goals as goal

-- `whole`: the atoms before the block and the block's are all
pub mark_blocks-requires : goal.mark_blocks-requires
mark_blocks-requires c =
    let whole : c.args.m - c.min-d.result + c.min-d.result ≡ c.args.m = omega (arith, c.min-d.ensures) in
    (omega (arith, c.requires, whole), omega (arith, c.min-d.ensures), c.requires.1, subst (λ (x : ℕ). 2 * 2 ^ x ≤ 64 * length c.args.bits.now) (sym whole) c.requires.2)

pub returns : goal.returns
returns c =
    let a = c.args in
    let whole : a.m - c.min-d.result + c.min-d.result ≡ a.m = omega (arith, c.min-d.ensures) in
    subst (λ (x : ℕ). Fills a.list.now a.contacts (x + a.s) (2 ^ x) (2 * 2 ^ x) a.bits.now c.mark_blocks.new.bits) whole
    c.mark_blocks.ensures
