-- Each name of rules that stand has at most 16 bytes: it is a token of its rule's text, and longer ones are refused. Assumes nothing.
use mathlib.Core.Path.{◌≡◌, refl, sym, ap, subst}
use mathlib.Core.Logic.{⊎_elim}
use mathlib.Core.List.{List, []}
use Prim.Native.Nat.{ℕ, zero, suc, ◌+◌, ◌≤◌, ◌<◌}
use native.Mathlib.Omega.{arith}
use native.Mathlib.Decide.{ℕ_discrete}
use lib.ListN.{length, get_or, drop, length-take, get_or-eq_default}
use Rattle.lists.proofs.Truth.{side}
use Rattle.formula.specs.Formula.{Formula, Name}
use Rattle.formula.specs.Atoms.{atoms_of}
use Rattle.formula.specs.Names.{atom_names, formula_names}
use Rattle.lexer.specs.Arrays.{code_of}
use Rattle.lexer.specs.Token.{Token}
use Rattle.syntax.specs.Rule.{rule_of, meaning_of}
use Rattle.syntax.specs.declared.RuleAnswer.TheVariants as RuleAnswer
use Rattle.lists.specs.Search.{In, collect}
use Rattle.lists.proofs.Search.{none_in, uncons, placed, map_elim, any_intro, collect_intro, collect_elim}
use Rattle.contact.specs.Numbering.{all_atoms, same_name}
use Rattle.contact.proofs.Naming.{same_name_lem}
use Rattle.names.specs.Gather.{rule_tokens}
use Rattle.names.specs.Ninth.{names_at, NameAt, places_of}
use Rattle.contact.proofs.Distinct.{distinct_in_list}
use Rattle.names.proofs.Tokens.{past, token_within, at_name, at_other, at_end}
use Rattle.names.proofs.Texts.{names_of_rule, atoms_names}
use Rattle.table.specs.Sheet.{Text}
use Rattle.table.specs.Calls.{formulas_of, names_in}
use Rattle.syntax.proofs.Claims.{is_rule}

-- a name among the tokens of a text, from the i-th on
here_or_later : (s : Text) (i : ℕ) → i < length (rule_tokens s) → (w : Name) → In w (names_at (places_of s (drop i (rule_tokens s))))
    → (In w (names_at (places_of s (drop (i + 1) (rule_tokens s)))) → length w ≤ 16) → length w ≤ 16
here_or_later s i h w at later = go (ℕ_discrete (code_of this.kind) 18)
  where
    this : Token
    this = get_or (rule_tokens s) i past

    go : Dec (code_of this.kind ≡ 18) → length w ≤ 16
    go (yes q) =
        ⊎_elim
        (λ e. omega (arith, ap length e, length-take this.len (drop this.start s), (token_within s i h).1))
        later
        (uncons (subst (λ (l : List NameAt). In w (names_at l)) (at_name s (rule_tokens s) i h q) at))
    go (no q) = later (subst (λ (l : List NameAt). In w (names_at l)) (at_other s (rule_tokens s) i h q) at)

token_short : (s : Text) (k i : ℕ) → i + k ≡ length (rule_tokens s) → (w : Name) → In w (names_at (places_of s (drop i (rule_tokens s))))
    → length w ≤ 16
token_short s zero i e w at = none_in (subst (λ (l : List NameAt). In w (names_at l)) (at_end s (rule_tokens s) i (omega arith)) at)
token_short s (suc k) i e w at = here_or_later s i (omega arith) w at (λ j. token_short s k (i + 1) (omega arith) w j)

-- a name of a rule
rule_short : (s : Text) → (rule_of s).answer ≡ RuleAnswer.Formula → (w : Name) → In w (formula_names (meaning_of s)) → length w ≤ 16
rule_short s h w at =
    token_short s (length (rule_tokens s)) 0 (omega arith) w
    (subst (λ (l : List Name). In w l) (sym (names_of_rule s (meaning_of s) (is_rule s h))) at)

-- a name of the rules
module _ (rs : List Text) (rules : (s : Text) → In s rs → (rule_of s).answer ≡ RuleAnswer.Formula) where
  in_short : (w : Name) → In w (names_in rs) → length w ≤ 16
  unfolding names_in
  in_short w at =
      let every = collect atom_names (all_atoms (formulas_of rs)) in
      let a = collect_elim atom_names (all_atoms (formulas_of rs))
      (distinct_in_list same_name same_name_lem every w (any_intro (λ k. same_name k w) at ((same_name_lem w w).1 refl))) in
      let f = collect_elim atoms_of (formulas_of rs) a.1 in
      let s = map_elim meaning_of rs f.1 in
      rule_short s.0 (rules s.0 s.2) w
      (subst (λ (g : Formula Name). In w (formula_names g)) s.1
      (subst (λ (l : List Name). In w l) (atoms_names f.0) (collect_intro atom_names f.2 a.2)))

  pub names_short : (i : ℕ) → length (get_or (names_in rs) i []) ≤ 16
  names_short i =
      ⊎_elim (λ h. in_short (get_or (names_in rs) i []) (placed [] (names_in rs) i h))
      (λ h. omega (arith, ap length (get_or-eq_default (names_in rs) [] h)))
      (side i (length (names_in rs)))
