-- What is proved of the names that are gathered, for whoever builds on it: the names that are known after a rule are the different names
-- of all rules so far, each place's number is its name's place among them, and a ninth is answered exactly where there is one. Each
-- claim cites the file that proves it. Assumes nothing.
use mathlib.Core.Path.{◌≡◌, sym, ap, ap₂, subst, ◌∙◌}
use mathlib.Core.Logic.{◌↔◌}
use mathlib.Core.List.{List, [], ◌∷◌, ◌++◌, map}
use Prim.Native.Nat.{ℕ, ◌≤◌}
use native.Mathlib.Omega.{arith}
use lib.ListN.{length}
use Rattle.lists.specs.Padded.{pad}
use Rattle.formula.specs.Formula.{Formula, Name}
use Rattle.formula.specs.Names.{atom_names, formula_names}
use Rattle.syntax.specs.RuleText.{IsRule}
use Rattle.syntax.specs.Rule.{rule_of}
use Rattle.syntax.specs.declared.Rule.{Rule}
use Rattle.lists.specs.Search.{In, collect}
use Rattle.evalset.specs.Most.{most}
use Rattle.contact.specs.Numbering.{all_atoms, distinct, position, same_name, names_of}
use Rattle.contact.proofs.Naming.{name_alike}
use Rattle.names.specs.declared.Names.{Names}
use Rattle.names.specs.declared.NamesAnswer.{NamesAnswer}
use Rattle.names.specs.declared.Gathered.{Gathered}
use Rattle.names.specs.Gather.{rule_tokens, names_after, arrays_of, known_of, gathered_of, gathered, Kept, Gathers}
use Rattle.names.specs.Ninth.{names_at, NinthAt, places_of}
use Rattle.contact.proofs.Distinct.{position_distinct}
use Rattle.names.proofs.Arrays.{known_back, kept_names}
use Rattle.names.proofs.Outcome.{few_after}
use Rattle.names.proofs.Places.{places_enough, places_known, places_ninth}
use Rattle.names.proofs.Texts.{names_of_rule, every_name, every_name_append, every_name_last}

-- ---- for a caller of `gather`

-- names that are the arrays of at most eight may be given to it
pub may_gather : (s : List ℕ) (rule : Rule) (ns : Names) (ks : List Name) → rule ≡ rule_of s → ns ≡ arrays_of ks → length ks ≤ most → Gathers s rule ns
may_gather s rule ns ks e f h = record { read = e; kept = subst Kept (sym f) (kept_names ks h) }

-- and these are what it starts from
pub known_from : (ns : Names) (ks : List Name) → ns ≡ arrays_of ks → known_of ns ≡ ks
known_from ns ks e = ap known_of e ∙ known_back ks

-- what it gives back may be given to it again
pub kept_after : (s : List ℕ) (ks : List Name) → length ks ≤ most → Kept (gathered s ks).names
unfolding gathered gathered_of
kept_after s ks h = kept_names (names_after ks (places_of s (rule_tokens s))).names (few_after ks (places_of s (rule_tokens s)) h)

-- ---- a rule behind earlier names, of which at most eight are different

-- the arrays of the names ks, with the number of each of the names ws
abbrev pub enough_of : List Name → List Name → Gathered
enough_of ks ws = record { names = arrays_of ks; numbers = pad 256 (map (position same_name ks) ws); answer = NamesAnswer.Enough }

module _ (s : List ℕ) (f : Formula Name) (rule : IsRule s f) (earlier : List Name) (few : length (distinct same_name earlier) ≤ most) where
  abbrev after : Gathered
  after = gathered s (distinct same_name earlier)

  abbrev every : List Name
  every = distinct same_name (earlier ++ formula_names f)

  every_is : distinct same_name (earlier ++ names_at (places_of s (rule_tokens s))) ≡ every
  every_is = ap (λ (ws : List Name). distinct same_name (earlier ++ ws)) (names_of_rule s f rule)

  -- eight are enough exactly if at most eight are different
  pub enough_exactly : (after.answer ≡ NamesAnswer.Enough) ↔ (length every ≤ most)
  unfolding gathered gathered_of
  enough_exactly =
      let r = places_enough earlier (places_of s (rule_tokens s)) few in (
        λ e. omega (arith, r.0 e, ap length every_is),
        λ h. r.1 (omega (arith, ap length every_is)),
      )

  -- then the names known are the different ones, and each place has the number of its name
  pub enough_gathered : after.answer ≡ NamesAnswer.Enough → after ≡ enough_of every (formula_names f)
  unfolding gathered gathered_of
  enough_gathered e =
      ap gathered_of (places_known earlier (places_of s (rule_tokens s)) few e)
      ∙ ap₂ (λ (ks ws : List Name). enough_of ks ws) every_is (names_of_rule s f rule)

  -- a ninth is answered at exactly one place: the ninth different name's first
  pub ninth_exactly : (p : ℕ) → (after.answer ≡ NamesAnswer.TooManyNames p) ↔ NinthAt earlier (places_of s (rule_tokens s)) p
  unfolding gathered gathered_of
  ninth_exactly p = places_ninth earlier (places_of s (rule_tokens s)) few p

-- a name keeps its number when further names come
pub number_stays : (earlier later : List Name) (w : Name) → In w earlier
    → position same_name (distinct same_name (earlier ++ later)) w ≡ position same_name (distinct same_name earlier) w
number_stays = position_distinct same_name name_alike

-- ---- the rules in order

-- one rule more
pub names_with : (rules : List (Formula Name)) (f : Formula Name)
    → names_of (rules ++ f ∷ []) ≡ distinct same_name (collect atom_names (all_atoms rules) ++ formula_names f)
names_with rules f = ap (distinct same_name) (every_name_last rules f)

module _ (rules : List (Formula Name)) (few : length (names_of rules) ≤ most) (s : List ℕ) (f : Formula Name) (rule : IsRule s f) where
  pub rule_enough : ((gathered s (names_of rules)).answer ≡ NamesAnswer.Enough) ↔ (length (names_of (rules ++ f ∷ [])) ≤ most)
  rule_enough =
      let r = enough_exactly s f rule (every_name rules) few in (
        λ e. omega (arith, r.0 e, ap length (names_with rules f)),
        λ h. r.1 (omega (arith, ap length (names_with rules f))),
      )

  pub rule_gathered : (gathered s (names_of rules)).answer ≡ NamesAnswer.Enough → gathered s (names_of rules) ≡ enough_of (names_of (rules ++ f ∷ [])) (formula_names f)
  rule_gathered e = enough_gathered s f rule (every_name rules) few e ∙ ap (λ (ks : List Name). enough_of ks (formula_names f)) (sym (names_with rules f))

  pub rule_ninth : (p : ℕ) → ((gathered s (names_of rules)).answer ≡ NamesAnswer.TooManyNames p) ↔ NinthAt (collect atom_names (all_atoms rules)) (places_of s (rule_tokens s)) p
  rule_ninth p = ninth_exactly s f rule (every_name rules) few p

-- later rules change no number
pub rules_number_stays : (rules more : List (Formula Name)) (w : Name) → In w (collect atom_names (all_atoms rules))
    → position same_name (names_of (rules ++ more)) w ≡ position same_name (names_of rules) w
rules_number_stays rules more w i =
    ap (λ (l : List Name). position same_name (distinct same_name l) w) (every_name_append rules more)
    ∙ number_stays (every_name rules) (every_name more) w i
