-- Atom meets its definition: what is printed at the first place of an atom is the atom's text. An atom's text is no longer than its rule,
-- so that 256 bytes hold it; and those of sixteen numbers in arrays. Assumes nothing.
use Prim.Native.Nat.{ℕ, ◌+◌, ◌-◌, ◌≤◌, ◌<◌}
use mathlib.Core.Path.{◌≡◌, sym, ap, ap₂, subst, ◌∙◌, fun_ext}
use mathlib.Core.Bool.{Bool, true, cond}
use mathlib.Core.List.{List, [], ◌∷◌, ◌++◌, map, append-nil, map-append}
use native.Mathlib.Omega.{arith}
use lib.Dec.{ltb, leb}
use lib.ListN.{length, get_or, take, set, replicate, length-map}
use borrow.Author.Tests.{ltb-true, ltb-false, lt-ltb, le-ltb, le-leb}
use Rattle.lists.specs.Buffer.{over}
use Rattle.lists.proofs.Lists.{map_at, set_behind}
use Rattle.lists.specs.Search.{In, below, from}
use Rattle.lists.proofs.Search.{placed, map_elim, collect_elim, from_append, from_length}
use Rattle.lists.proofs.Truth.{cases}
use Rattle.formula.specs.Formula.{Term, Atom, Form, Formula, Name}
use Rattle.formula.specs.Atoms.{atoms_of}
use Rattle.formula.specs.Same.{name_discrete, same_atom}
use Rattle.contact.specs.Numbering.{all_atoms, different_atoms, map_atom, number_of}
use Rattle.contact.proofs.Distinct.{from_distinct}
use Rattle.syntax.specs.Rule.{meaning_of}
use Rattle.syntax.specs.RuleText.{IsRule}
use Rattle.syntax.proofs.Claims.{is_rule}
use Rattle.lists.specs.declared.ShortBuffer.{ShortBuffer}
use Rattle.printing.specs.Text.{text_of}
use Rattle.printing.specs.Prints.{atom_text, Prints}
use Rattle.printing.proofs.Claims.{atom_never_longer}
use Rattle.ruleset.specs.declared.AtomPlace.{AtomPlace}
use Rattle.ruleset.specs.declared.Compiling.{Compiling}
use Rattle.ruleset.specs.Texts.{CompiledRules}
use Rattle.ruleset.specs.Places.{atom_at, Writing, WritingIs}
use Rattle.table.specs.declared.AtomText.{AtomText}
use Rattle.table.specs.declared.Table.{Table}
use Rattle.table.specs.Store.{rules_of}
use Rattle.table.specs.Sheet.{Text}
use Rattle.table.specs.Rules.{CanStand}
use Rattle.table.specs.Calls.{formulas_of, FromUs}
use Rattle.std.specs.Prelude.{Some, None, Result, Ok, Err}
use Rattle.table.specs.Steps.{TextsCompiled, PlaceIs}
use Rattle.table.specs.AtomText.{atom_text_of}
use Rattle.table.specs.Explaining.{GivesAtom, kept_text, texts_of}
use Rattle.table.proofs.Lines.{count_is}
use Rattle.table.proofs.Recount.{text, text_is}
use Rattle.table.proofs.Rules.{can_read}
use Rattle.table.proofs.Compiled.{reached_all}

-- as many formulas as rules
pub as_many : (t : Table) → FromUs t → length (formulas_of (rules_of t)) ≡ t.count
as_many t v = length-map (rules_of t) meaning_of ∙ sym (count_is t v)

abbrev too_short : ℕ → Result ℕ ShortBuffer
too_short n = Err (record { needed = n })

-- ---- where the atom is written first

many : (rules : List (Formula Name)) (c : Compiling) (kept code : List ℕ) → CompiledRules rules c kept code → c.known.atoms.chart.atoms ≡ length (different_atoms rules)
many rules c kept code h = h.known.compiled.counted ∙ length-map (different_atoms rules) (map_atom (number_of rules))

module _ (c : Compiling) (code : List ℕ) (which : ℕ) where
  pub place_none : c.known.atoms.chart.atoms ≤ which → PlaceIs c code which None
  unfolding PlaceIs
  place_none high rules kept h = omega (arith, many rules c kept code h)

  pub place_found : (p : AtomPlace) → which < c.known.atoms.chart.atoms → WritingIs c code which p → PlaceIs c code which (Some p)
  unfolding WritingIs PlaceIs
  place_found p low says rules kept h = (omega (arith, many rules c kept code h), says rules kept h)

-- ---- its text

module _ (t : Table) (v : FromUs t) (c : Compiling) (code : List ℕ) (by : TextsCompiled (take t.count (rules_of t)) c code) (which : ℕ) where
  abbrev rules : List (Formula Name)
  rules = formulas_of (rules_of t)

  -- the text of the atom with the number, whether there is one or not
  abbrev ws : List ℕ
  ws = text_of (Form.atom (atom_at (different_atoms rules) which))

  -- there is no such atom
  pub gives_none : PlaceIs c code which None → (buffer : List ℕ) → GivesAtom rules which buffer (Ok 0) buffer
  unfolding atom_text_of over PlaceIs
  gives_none says buffer =
      let high : length (different_atoms rules) ≤ which = says rules by.kept (reached_all t c code v by) in
      let none : atom_text_of rules which ≡ [] = ap (λ (b : Bool). cond b ws []) (le-ltb _ _ high) in
      let fits : leb 0 (length buffer) ≡ true = le-leb 0 (length buffer) (omega arith) in
      subst (λ (l : List ℕ). Prints l buffer (Ok 0) buffer) (sym none)
      (record {
        answer = sym (ap (λ (b : Bool). cond b (Ok 0) (too_short 0)) fits);
        bytes = sym (ap (λ (b : Bool). cond b buffer buffer) fits);
      })

  -- it is written first at the place
  module _ (p : AtomPlace) (says : PlaceIs c code which (Some p)) where
    first : (which < length (different_atoms rules)) × Writing rules which p
    unfolding PlaceIs
    first = says rules by.kept (reached_all t c code v by)

    pub in_table : p.rule < t.count
    in_table = omega (arith, as_many t v, first.1.rule_there)

    rule_is : get_or rules p.rule Form.truth ≡ meaning_of (text v in_table)
    rule_is = map_at meaning_of (rules_of t) p.rule [] Form.truth (omega (arith, count_is t v, in_table)) ∙ ap meaning_of (sym (text_is v in_table))

    pub atom_there : p.atom < length (atoms_of (meaning_of (text v in_table)))
    atom_there = subst (λ (f : Formula Name). p.atom < length (atoms_of f)) rule_is first.1.atom_there

    -- what is printed there is the text of the atom
    same_text : atom_text (text v in_table) p.atom ≡ atom_text_of rules which
    unfolding atom_text atom_text_of
    same_text =
        ap (λ (f : Formula Name). text_of (Form.atom (get_or (atoms_of f) p.atom (Atom.empty Term.zero)))) (sym rule_is)
        ∙ ap (λ (a : Atom Name). text_of (Form.atom a)) first.1.is_atom
        ∙ sym (ap (λ (b : Bool). cond b ws []) (lt-ltb _ _ first.0))

    pub gives_text : (buffer : List ℕ) (r : Result ℕ ShortBuffer) (exit : List ℕ) → Prints (atom_text (text v in_table) p.atom) buffer r exit → GivesAtom rules which buffer r exit
    gives_text buffer r exit says = subst (λ (l : List ℕ). Prints l buffer r exit) same_text says

-- ---- its length

-- an atom of a rule is no longer than the rule, and no rule has more than 256 bytes
pub atom_short : (rs : List Text) → CanStand rs → (which : ℕ) → length (atom_text_of (formulas_of rs) which) ≤ 256
unfolding atom_text_of
atom_short rs can which =
    cases (ltb which (length atoms))
    (λ e. subst (λ (b : Bool). length (cond b ws []) ≤ 256) (sym e) (short (placed none atoms which (ltb-true _ _ e))))
    (λ e. subst (λ (b : Bool). length (cond b ws []) ≤ 256) (sym e) (omega arith))
  where
    none : Atom Name
    none = Atom.empty Term.zero

    atoms : List (Atom Name)
    atoms = different_atoms (formulas_of rs)

    ws : List ℕ
    ws = text_of (Form.atom (get_or atoms which none))

    short : In (get_or atoms which none) atoms → length ws ≤ 256
    short i =
        let f = collect_elim atoms_of (formulas_of rs) (from_distinct (same_atom name_discrete) (all_atoms (formulas_of rs)) i) in
        let s = map_elim meaning_of rs f.1 in
        let rule : IsRule s.0 f.0 = subst (IsRule s.0) (sym s.1) (is_rule s.0 (can_read rs can s.0 s.2)) in
        omega (arith, atom_never_longer s.0 f.0 rule _ f.2, rule.short)

-- ---- in arrays

-- the length that is answered
abbrev pub length_in : Result ℕ ShortBuffer → ℕ
length_in (Ok n) = n
length_in (Err e) = e.needed

abbrev text_in : List ℕ → ℕ → AtomText
text_in bytes len = record { bytes = bytes; len = len }

-- 256 bytes have room for what is printed
pub kept_atom : (t : Table) → FromUs t → (which : ℕ) (buffer : List ℕ) → buffer ≡ replicate 256 0 → (r : Result ℕ ShortBuffer) (exit : List ℕ)
    → GivesAtom (formulas_of (rules_of t)) which buffer r exit → (len : ℕ) → length_in r ≡ len
    → record { bytes = exit; len = len } ≡ kept_text (atom_text_of (formulas_of (rules_of t)) which)
unfolding kept_text
kept_atom t v which buffer zeros r exit g len e =
    let xs = atom_text_of (formulas_of (rules_of t)) which in
    let long : length buffer ≡ 256 = ap length zeros in
    let fits : leb (length xs) (length buffer) ≡ true = le-leb (length xs) (length buffer) (omega (arith, atom_short (rules_of t) v.standing which, long)) in
    let is : len ≡ length xs = sym e ∙ ap length_in (g.answer ∙ ap (λ (b : Bool). cond b (Ok (length xs)) (too_short (length xs))) fits) in
    ap₂ text_in
    (g.bytes ∙ ap (λ (b : Bool). cond b (over xs buffer) buffer) fits ∙ ap (over xs) zeros)
    is

module _ (atom : ℕ → List ℕ) where
  abbrev kept : ℕ → AtomText
  kept j = kept_text (atom j)

  -- the texts before place i are kept, and the others have no bytes
  abbrev pub KeptTo : List AtomText → ℕ → Type 0
  KeptTo texts i = texts ≡ map kept (below i) ++ replicate (16 - i) (kept_text [])

  pub kept_next : (texts : List AtomText) (i : ℕ) (text : AtomText) → i < 16 → KeptTo texts i → text ≡ kept_text (atom i) → KeptTo (set texts i text) (i + 1)
  kept_next texts i text h before e =
      let m : 16 - i - 1 ≡ 16 - (i + 1) = omega arith in
      let z : 0 + i ≡ i = omega arith in
      let more : map kept (below (i + 1)) ≡ map kept (below i) ++ kept i ∷ []
      = ap (map kept) (from_append 0 i 1) ∙ map-append kept (below i) (from (0 + i) 1) ∙ ap (λ (x : ℕ). map kept (below i) ++ kept x ∷ []) z in
      ap₂ (λ (l : List AtomText) (a : AtomText). set l i a) before e
      ∙ set_behind (map kept (below i)) (kept_text []) (kept i) (16 - i) i (length-map (below i) kept ∙ from_length 0 i) (omega arith)
      ∙ ap (λ (k : ℕ). map kept (below i) ++ kept i ∷ [] ++ replicate k (kept_text [])) m
      ∙ ap (λ (l : List AtomText). l ++ replicate (16 - (i + 1)) (kept_text [])) (sym more)

  pub kept_all : (texts : List AtomText) → KeptTo texts 16 → texts ≡ texts_of atom
  unfolding texts_of
  kept_all texts all = all ∙ append-nil (map kept (below 16))

  -- where none has a byte
  pub kept_none : ((j : ℕ) → atom j ≡ []) → replicate 16 (kept_text []) ≡ texts_of atom
  unfolding texts_of
  kept_none none = ap (λ (f : ℕ → List ℕ). map (λ (j : ℕ). kept_text (f j)) (below 16)) (fun_ext (λ j. sym (none j)))
