-- A search over the codes of chosen rules finds a row where there is one for them, numbered as all rules are; with nothing chosen there is one.
-- And the loop from the last rule to the first: before the place all are chosen, from it on those that are kept. Assumes nothing.
use mathlib.Core.Bool.{Bool, true, false}
use mathlib.Core.Path.{◌≡◌, refl, sym, ap, ap₂, subst, ◌∙◌}
use mathlib.Core.List.{List, [], ◌∷◌, ◌++◌}
use Prim.Native.Nat.{ℕ, zero, suc, ◌+◌, ◌-◌, ◌≤◌, ◌<◌}
use native.Mathlib.Omega.{arith}
use lib.ListN.{length, get_or, take, drop, set, replicate, length-map, replicate-append-replicate, drop_of_length-le}
use lib.Seq.{set-set, take_at}
use Rattle.formula.specs.Formula.{Atom, Form, Formula, Name}
use Rattle.lists.proofs.Lists.{rest, take_next}
use Rattle.lists.proofs.Truth.{clash}
use Rattle.contact.specs.Question.{plain}
use Rattle.contact.specs.Numbering.{names_of, numbered_atoms, row_atoms, map_form, atom_number}
use Rattle.contact.specs.Row.{Row}
use Rattle.contact.specs.Check.{first_row, first_row_of}
use Rattle.contact.proofs.Claims.{numbered_below}
use Rattle.std.specs.Option.{is_some}
use Rattle.solver.specs.Coded.{CodedFrom, Coded}
use Rattle.solver.specs.Tree.{ComesFrom, Runnable, answer_for, FirstRowSays}
use Rattle.solver.proofs.Claims.{runnable, answer_is}
use Rattle.ruleset.specs.declared.Compiling.{Compiling}
use Rattle.ruleset.specs.Texts.{CompiledRules, FirstRowIs}
use Rattle.ruleset.proofs.Claims.{comes_from, may_run}
use Rattle.clashing.specs.Clash.{chosen}
use Rattle.clashing.specs.Clashing.{is_found, clash_from, clash_of}
use Rattle.std.specs.Prelude.{Option, Result, Ok, Err}
use Rattle.clashing.specs.declared.NoClash.{NoClash}
use Rattle.clashing.specs.Steps.{KeptIs, Clashes, ClashIs}
use Rattle.clashing.proofs.Choosing.{chosen_behind, chosen_short}
use Rattle.clashing.proofs.Meeting.{found_no_rules}

-- ---- one search

row_found : (l : List Row) → is_some (answer_for l) ≡ is_found l
row_found [] = refl
row_found (row ∷ l) = refl

no_code : (many : ℕ) (code : List ℕ) (from : ℕ) (nums : List (Form ℕ)) → CodedFrom many code from [] nums → nums ≡ []
no_code many code from [] h = refl
no_code many code from (f ∷ nums) h = absurd h

module _ (rules : List (Formula Name)) (c : Compiling) (kept code : List ℕ) (h : CompiledRules rules c kept code) (out ends : List ℕ) (nums : List (Form ℕ))
    (coded : Coded c.known.atoms.chart.atoms out ends nums) where
  from_chosen : ComesFrom out ends c.known.atoms.chart (row_atoms rules) nums
  from_chosen = record { compiled = (comes_from rules c kept code h).compiled; coded = coded }

  -- `first_row` may be called with the codes of chosen rules
  pub chosen_run : Runnable out ends c.known.atoms.chart
  chosen_run = runnable from_chosen (may_run rules c kept code h).atoms_fit

  -- and answers for them
  pub chosen_found : (r : Option ℕ) → FirstRowSays plain out ends c.known.atoms.chart r
      → is_some r ≡ is_found (first_row plain (length (names_of rules)) (row_atoms rules) nums)
  chosen_found r says =
      ap is_some
      (answer_is plain out ends c.known.atoms.chart r says (row_atoms rules) nums from_chosen
      ∙ ap (λ (n : ℕ). answer_for (first_row plain n (row_atoms rules) nums)) h.known.names_counted)
      ∙ row_found (first_row plain (length (names_of rules)) (row_atoms rules) nums)

  -- where nothing is chosen there is a row
  pub none_chosen : ends ≡ [] → true ≡ is_found (first_row plain (length (names_of rules)) (row_atoms rules) nums)
  none_chosen e =
      sym (ap (λ (fs : List (Form ℕ)). is_found (first_row plain (length (names_of rules)) (row_atoms rules) fs))
      (no_code c.known.atoms.chart.atoms out 0 nums (subst (λ (es : List ℕ). Coded c.known.atoms.chart.atoms out es nums) e coded))
      ∙ found_no_rules (length (names_of rules)) (row_atoms rules) (numbered_below rules))

-- ---- from the last rule to the first

-- at the place of the last of those that are true
trues_last : (k : ℕ) (l : List Bool) (b : Bool) → set (replicate (suc k) true ++ l) k b ≡ replicate k true ++ b ∷ l
trues_last zero l b = refl
trues_last (suc k) l b = ap (λ (r : List Bool). true ∷ r) (trues_last k l b)

pub clash_long : (n : ℕ) (atoms : List (Atom ℕ)) (before nums : List (Form ℕ)) → length (clash_from n atoms before nums) ≡ length nums
unfolding clash_from
clash_long n atoms before [] = refl
clash_long n atoms before (f ∷ nums) = ap suc (clash_long n atoms (before ++ f ∷ []) nums)

module _ (rules : List (Formula Name)) where
  abbrev nums : List (Form ℕ)
  nums = numbered_atoms rules

  -- what is kept of the rules from a place on
  abbrev kept_from : ℕ → List Bool
  kept_from i = clash_from (length (names_of rules)) (row_atoms rules) (take i nums) (drop i nums)

  -- all before the place, and behind the rules no matter
  abbrev pub tried_to : ℕ → List Bool
  tried_to i = replicate i true ++ (kept_from i ++ replicate (16 - length rules) true)

  pub tried_none : (i : ℕ) → i ≡ length rules → i ≤ 16 → replicate 16 true ≡ tried_to i
  unfolding clash_from
  tried_none i e l =
      ap (λ (k : ℕ). replicate k true) (let f : 16 ≡ i + (16 - length rules) = omega arith in f)
      ∙ sym (replicate-append-replicate i (16 - length rules) true)
      ∙ ap (λ (fs : List (Form ℕ)). replicate i true ++ (clash_from (length (names_of rules)) (row_atoms rules) (take i nums) fs ++ replicate (16 - length rules) true))
      (sym (drop_of_length-le nums {i = i} (omega (arith, length-map rules (map_form (atom_number rules))))))

  pub tried_all : tried_to 0 ≡ clash_of rules ++ replicate (16 - length rules) true
  tried_all = refl

  module _ (k : ℕ) (there : suc k ≤ length rules) where
    abbrev behind : List Bool
    behind = kept_from (suc k)

    -- without the rule at the place
    pub tried_without : chosen (set (tried_to (suc k)) k false) nums ≡ take k nums ++ chosen behind (drop (suc k) nums)
    tried_without =
        ap (λ (s : List Bool). chosen s nums) (trues_last k (behind ++ replicate (16 - length rules) true) false)
        ∙ chosen_behind k (behind ++ replicate (16 - length rules) true) nums
        ∙ ap (λ (l : List (Form ℕ)). take k nums ++ l)
        (chosen_short behind (replicate (16 - length rules) true) (drop (suc k) nums)
        (omega (arith, clash_long (length (names_of rules)) (row_atoms rules) (take (suc k) nums) (drop (suc k) nums))))

    there_too : k < length nums
    there_too = omega (arith, length-map rules (map_form (atom_number rules)))

    kept_next : kept_from k ≡ is_found (first_row plain (length (names_of rules)) (row_atoms rules) (take k nums ++ chosen behind (drop (suc k) nums))) ∷ behind
    unfolding clash_from
    kept_next =
        let next : suc k ≡ k + 1 = omega arith in
        let f = get_or nums k Form.truth in
        ap (clash_from (length (names_of rules)) (row_atoms rules) (take k nums)) (rest nums k Form.truth there_too ∙ ap (λ (i : ℕ). f ∷ drop i nums) (sym next))
        ∙ ap
        (λ (before : List (Form ℕ)). let s = clash_from (length (names_of rules)) (row_atoms rules) before (drop (suc k) nums) in
        is_found (first_row plain (length (names_of rules)) (row_atoms rules) (take k nums ++ chosen s (drop (suc k) nums))) ∷ s)
        (sym (take_next nums k Form.truth there_too) ∙ ap (λ (i : ℕ). take i nums) (sym next))

    pub tried_next : (b : Bool) → b ≡ is_found (first_row plain (length (names_of rules)) (row_atoms rules) (chosen (set (tried_to (suc k)) k false) nums))
        → set (set (tried_to (suc k)) k false) k b ≡ tried_to k
    tried_next b e =
        set-set (tried_to (suc k)) k false b
        ∙ trues_last k (behind ++ replicate (16 - length rules) true) b
        ∙ ap (λ (s : List Bool). replicate k true ++ (s ++ replicate (16 - length rules) true))
        (ap (λ (x : Bool). x ∷ behind) (e ∙ ap (λ (fs : List (Form ℕ)). is_found (first_row plain (length (names_of rules)) (row_atoms rules) fs)) tried_without) ∙ sym kept_next)

  -- one turn of the loop
  pub tried_step : (i k : ℕ) (s : List Bool) (b : Bool) → i ≡ suc k → i ≤ length rules → s ≡ tried_to i
      → b ≡ is_found (first_row plain (length (names_of rules)) (row_atoms rules) (chosen (set s k false) nums)) → set (set s k false) k b ≡ tried_to k
  tried_step i k s b e l is found =
      let so : s ≡ tried_to (suc k) = is ∙ ap tried_to e in
      ap (λ (t : List Bool). set (set t k false) k b) so
      ∙ tried_next k (omega arith) b
      (found ∙ ap (λ (t : List Bool). is_found (first_row plain (length (names_of rules)) (row_atoms rules) (chosen (set t k false) nums))) so)

-- ---- the answer

module _ (c : Compiling) (code : List ℕ) (before : List Bool) (r : Option ℕ) (first : FirstRowIs plain c code r) where
  module _ (rules : List (Formula Name)) (kept : List ℕ) (h : CompiledRules rules c kept code) where
    rows_found : is_some r ≡ is_found (first_row_of plain rules)
    unfolding FirstRowIs
    rows_found = ap is_some (first rules kept h) ∙ row_found (first_row_of plain rules)

    as_many : c.known.count ≡ length (clash_of rules)
    as_many = h.known.counted ∙ sym (clash_long (length (names_of rules)) (row_atoms rules) [] (numbered_atoms rules) ∙ length-map rules (map_form (atom_number rules)))

  -- a plan exists
  pub clash_plan : is_some r ≡ true → ClashIs c code before before (Err NoClash.PlanExists)
  unfolding ClashIs
  clash_plan e rules kept h = go (first_row_of plain rules) (sym (rows_found rules kept h) ∙ e)
    where
      go : (l : List Row) → is_found l ≡ true → Clashes l (clash_of rules) before before (Err NoClash.PlanExists)
      go [] k = clash k refl
      go (row ∷ l) k = (refl, refl)

  -- or none does
  module _ (none : is_some r ≡ false) (after : List Bool) (a : Result ℕ NoClash) where
    pub clash_none : ((s : List Bool) → c.known.count ≡ length s → ((rules : List (Formula Name)) (kept : List ℕ) → CompiledRules rules c kept code → s ≡ clash_of rules → Clashes [] s before after a))
        → ClashIs c code before after a
    unfolding ClashIs
    clash_none by rules kept h = go (first_row_of plain rules) (sym (rows_found rules kept h) ∙ none)
      where
        go : (l : List Row) → is_found l ≡ false → Clashes l (clash_of rules) before after a
        go [] k = by (clash_of rules) (as_many rules kept h) rules kept h refl
        go (row ∷ l) k = clash refl k

  -- and there are too few places
  pub clash_few : is_some r ≡ false → length before < c.known.count → ClashIs c code before before (Err (NoClash.Short c.known.count))
  clash_few none l =
      clash_none none before (Err (NoClash.Short c.known.count))
      (λ s m rules kept h e. (λ fits. absurd (omega arith), λ k. (ap (λ (n : ℕ). Err (NoClash.Short n)) m, refl)))

  -- or enough
  pub clash_placed : is_some r ≡ false → c.known.count ≤ length before → (s after : List Bool) → KeptIs c code s → after ≡ take c.known.count s ++ drop c.known.count before
      → ClashIs c code before after (Ok c.known.count)
  unfolding KeptIs
  clash_placed none l s after says put =
      clash_none none after (Ok c.known.count)
      (λ t m rules kept h e. (
        λ fits. (
          ap Ok m,
          put ∙ ap₂ (λ (u : List Bool) (n : ℕ). u ++ drop n before) (ap (take c.known.count) (says rules kept h)
              ∙ take_at (clash_of rules) (replicate (16 - length rules) true) c.known.count (sym (as_many rules kept h)) ∙ sym e) m,
        ),
        λ k. absurd (omega arith),
      ))
