-- `table::Table::atom_texts` meets its contract: so far the texts before place i are kept (Atoms.antt). Assumes nothing.
use mathlib.Core.Path.{◌≡◌, subst}
use native.Mathlib.Omega.{arith}
use Rattle.table.specs.Store.{rules_of}
use Rattle.table.specs.Calls.{formulas_of}
use Rattle.table.specs.AtomText.{atom_text_of}
use Rattle.table.proofs.Atoms.{KeptTo, kept_next, kept_all}
use Rattle.table.proofs.Table.atom_texts.Goals as goal

pub loop-i-init : goal.loop-i-init
loop-i-init c = c.no_texts-texts.ensures

pub loop-i-preserved : goal.loop-i-preserved
loop-i-preserved c =
    let k = c.loop-i in
    kept_next _ k.texts k.i c.atom_text-text.result (omega arith) k.invariant c.atom_text-text.ensures

pub returns : goal.returns
returns c =
    let k = c.loop-i in
    let all : k.i ≡ 16 = omega arith in
    kept_all _ k.texts (subst (KeptTo (atom_text_of (formulas_of (rules_of c.args.self))) k.texts) all k.invariant)
