-- `compile::signed` meets its contract: a sign that makes no atom has its own code, an atom's sign that of its number; the row is kept where
-- the number is that of the atoms and below sixteen. Assumes nothing.
use mathlib.Core.Bool.{true}
use mathlib.Core.Path.{◌≡◌, refl, sym, ap, subst, ◌∙◌}
use Prim.Native.Nat.{ℕ}
use native.Mathlib.Omega.{arith}
use lib.ListN.{set}
use Rattle.lists.proofs.Truth.{clash}
use Rattle.spelling.specs.Kept.{Numbers, Stores}
use Rattle.spelling.proofs.Claims.{storing}
use Rattle.compile.specs.Kinds.{atom_kind}
use Rattle.compile.specs.Signs.{Signing}
use Rattle.compile.proofs.Placing.{number_few}
use Rattle.compile.proofs.Turns.{sign_small}
use Rattle.compile.proofs.signed.Goals as goal

pub returns-then-not-is_atom : goal.returns-then-not-is_atom
returns-then-not-is_atom c =
    let no = sym c.is_atom.ensures ∙ c.if-not-is_atom.true in
    record {
      other = λ k. c.sign_code.ensures;
      placed = λ k atoms a n K S. clash k no;
      same = λ n. (refl, refl);
      stored = λ e l. absurd (omega (arith, e, c.sign_code.ensures, sign_small c.args.kind));
    }

-- ---- the sign is that of an atom: its row is asked for, and its number at most that of the atoms

pub number_of-number-requires : goal.number_of-number-requires
unfolding Signing
number_of-number-requires c = (c.requires (sym c.is_atom.ensures ∙ c.if-not-is_atom.false)).0

pub overflow_cast-sign : goal.overflow_cast-sign
unfolding Signing
overflow_cast-sign c =
    let few = number_few (c.requires (sym c.is_atom.ensures ∙ c.if-not-is_atom.false)).0 c.number_of-number.ensures in
    omega (arith, few.0, few.1)

pub overflow_add-sign : goal.overflow_add-sign
unfolding Signing
overflow_add-sign c =
    let few = number_few (c.requires (sym c.is_atom.ensures ∙ c.if-not-is_atom.false)).0 c.number_of-number.ensures in
    omega (arith, few.0, few.1)

pub returns-then-number-many : goal.returns-then-number-many
unfolding Numbers
returns-then-number-many c =
    record {
      other = λ k. clash (sym c.is_atom.ensures ∙ c.if-not-is_atom.false) k;
      placed = λ k atoms a n K S. omega (arith, c.number_of-number.ensures atoms a n K S);
      same = λ n. (refl, refl);
      stored = λ e l. absurd (omega (arith, e, c.if-number-many.true));
    }

pub returns-then-number-ge-ATOMS : goal.returns-then-number-ge-ATOMS
unfolding Numbers
returns-then-number-ge-ATOMS c =
    record {
      other = λ k. clash (sym c.is_atom.ensures ∙ c.if-not-is_atom.false) k;
      placed = λ k atoms a n K S. omega (arith, c.number_of-number.ensures atoms a n K S);
      same = λ n. (refl, refl);
      stored = λ e l. absurd (omega (arith, e, l, c.if-number-ge-ATOMS.true));
    }

pub keep_row-requires : goal.keep_row-requires
unfolding Signing
keep_row-requires c =
    let q = (c.requires (sym c.is_atom.ensures ∙ c.if-not-is_atom.false)).0 in
    storing q.keeps.whole q.spells (omega arith)

pub overflow_cast-lens : goal.overflow_cast-lens
unfolding Signing
overflow_cast-lens c = omega (arith, (c.requires (sym c.is_atom.ensures ∙ c.if-not-is_atom.false)).1)

pub returns : goal.returns
unfolding Numbers Signing
returns c =
    let number = c.number_of-number.result in
    let kind : atom_kind c.args.kind ≡ true = sym c.is_atom.ensures ∙ c.if-not-is_atom.false in
    let few = number_few (c.requires kind).0 c.number_of-number.ensures in
    let last : number ≡ c.args.many = omega (arith, few.0, c.if-number-many.false) in
    record {
      other = λ k. clash kind k;
      placed = λ k atoms a n K S. omega (arith, c.number_of-number.ensures atoms a n K S);
      same = λ n. absurd (n (omega (arith, last)));
      stored = λ e l. (
        kind,
        subst (λ (n : ℕ). Stores c.args.kept.now c.args.row.now c.args.len n c.keep_row.new.kept) last c.keep_row.ensures,
        ap (λ (n : ℕ). set c.args.lens.now n c.args.len) last,
      );
    }
