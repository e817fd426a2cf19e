-- The laws that the checker's functions cite: a word that closes a branch, by its kind, and the machine's steps from a place of the words.
-- Assumes nothing.
use mathlib.Core.Bool.{Bool, true, false, not, ◌&&◌, cond}
use mathlib.Core.Path.{◌≡◌, refl, sym, ap, ap₂, ◌∙◌, subst}
use mathlib.Core.List.{List, [], ◌∷◌}
use Prim.Native.Nat.{ℕ, suc, ◌+◌, ◌-◌, ◌/◌, ◌%◌, ◌^◌, ◌≤◌, ◌<◌}
use native.Mathlib.Numerals.{add-one}
use native.Mathlib.Omega.{arith}
use lib.Bits.{bit_or}
use lib.Dec.{eqb, ltb}
use lib.ListN.{length, get_or, take, drop, drop_of_length-le}
use borrow.Author.Tests.{lt-ltb, le-ltb, ne_eqb}
use Rattle.std.specs.Prelude.{Some, None, Result, Ok, Err}
use Rattle.formula.specs.Formula.{Atom, Form}
use Rattle.lists.proofs.Lists.{rest}
use Rattle.lists.proofs.Truth.{clash}
use Rattle.contact.specs.Question.{plain}
use Rattle.contact.specs.Row.{PartialRow}
use Rattle.search.specs.declared.Chart.{Chart}
use Rattle.search.specs.Compiled.{contact_at}
use Rattle.pairing.specs.Words.{Spelt, Serving}
use Rattle.pairing.specs.Listed.{ListSays}
use Rattle.pairing.proofs.Claims.{contacts_are}
use Rattle.solver.specs.Coded.{part}
use Rattle.solver.specs.Tree.{ComesFrom}
use Rattle.trees.specs.declared.Branch.{Branch}
use Rattle.trees.specs.declared.NotClosed.{NotClosed}
use Rattle.trees.specs.Closed.{value_in, decided, root, Splits}
use Rattle.trees.specs.Checker.{Does, splits, closes, wrong, is_unknown, false_there, after, not_closed_at, unless, by_kind, does, run, checked, no_floor}
use Rattle.trees.specs.Branch.{IsBranch, FloorSays, Comes, RuleSays, split_bit, SplitSays, is_closing, ClosesSays, ReachedSays, Moves, CheckSays}
use Rattle.trees.proofs.Spelling.{Says, says}
use Rattle.trees.proofs.Words.{root_branch, branch_true, branch_false}

-- ---- a word that closes a branch

closing_is : (x : Bool) → x ≡ is_closing (cond x closes wrong)
closing_is true = refl
closing_is false = refl

module _ (code ends list : List ℕ) (many contacts : ℕ) (b : Branch) (w : ℕ) where
  pub closes_rule : w / 0x10000000 ≡ 6 → w % 0x10000000 < 256 → (x : Bool) → RuleSays code ends many b (w % 0x10000000) x → ClosesSays code ends list many contacts b w x
  unfolding ClosesSays RuleSays does
  closes_rule six low x says_rule names atoms rules c p h =
      says_rule rules c.coded p h ∙ closing_is (false_there rules p (w % 0x10000000))
      ∙ sym (ap (λ (k : ℕ). is_closing (by_kind many rules (no_floor plain names atoms) p k (w % 0x10000000))) six
      ∙ ap (λ (y : Bool). is_closing (cond (y && false_there rules p (w % 0x10000000)) closes wrong)) (lt-ltb (w % 0x10000000) 256 low))

  pub closes_high : w / 0x10000000 ≡ 6 → 256 ≤ w % 0x10000000 → ClosesSays code ends list many contacts b w false
  unfolding ClosesSays does
  closes_high six high names atoms rules c p h =
      sym (ap (λ (k : ℕ). is_closing (by_kind many rules (no_floor plain names atoms) p k (w % 0x10000000))) six
      ∙ ap (λ (y : Bool). is_closing (cond (y && false_there rules p (w % 0x10000000)) closes wrong)) (le-ltb (w % 0x10000000) 256 high))

  pub closes_floor : w / 0x10000000 ≡ 7 → w % 0x10000000 ≡ 0 → many ≤ 16 → (x : Bool) → FloorSays list contacts b x
      → ClosesSays code ends list many contacts b w (not x)
  unfolding ClosesSays FloorSays does no_floor
  closes_floor seven none few x says-floor names atoms rules c p h =
      ap not (says-floor names atoms (omega (arith, c.counted)) c.contacts_are c.serving p (subst (λ (n : ℕ). IsBranch n b p) c.counted h))
      ∙ closing_is (no_floor plain names atoms p)
      ∙ sym (ap₂ (λ (k body : ℕ). is_closing (by_kind many rules (no_floor plain names atoms) p k body)) seven none)

  pub closes_body : w / 0x10000000 ≡ 7 → (w % 0x10000000 ≡ 0 → ⊥) → ClosesSays code ends list many contacts b w false
  unfolding ClosesSays does
  closes_body seven some names atoms rules c p h =
      sym (ap (λ (k : ℕ). is_closing (by_kind many rules (no_floor plain names atoms) p k (w % 0x10000000))) seven
      ∙ ap (λ (x : Bool). is_closing (cond (x && no_floor plain names atoms p) closes wrong)) (ne_eqb (w % 0x10000000) 0 some))

  pub closes_none : (w / 0x10000000 ≡ 6 → ⊥) → (w / 0x10000000 ≡ 7 → ⊥) → ClosesSays code ends list many contacts b w false
  unfolding ClosesSays does
  closes_none six seven names atoms rules c p h =
      go (eqb (w / 0x10000000) 5) (ltb (w % 0x10000000) many && is_unknown (value_in p (w % 0x10000000)))
      (eqb (w / 0x10000000) 6) _ (eqb (w / 0x10000000) 7) _ (ne_eqb (w / 0x10000000) 6 six) (ne_eqb (w / 0x10000000) 7 seven)
    where
      go : (k x l : Bool) (y : Does) (m : Bool) (z : Does) → l ≡ false → m ≡ false
          → false ≡ is_closing (cond k (cond x (splits (w % 0x10000000)) wrong) (cond l y (cond m z wrong)))
      go true true l y m z e f = refl
      go true false l y m z e f = refl
      go false x true y m z e f = clash refl e
      go false x false y true z e f = clash refl f
      go false x false y false z e f = refl

-- ---- what a word does, by its bit and by whether it closes

none_split : (many a : ℕ) {P : Type 0} → None ≡ split_bit many (splits a) → P
none_split many a e = absurd (let z : ◌≡◌ {A = ℕ} 0 1 = cc in omega arith)

is_wrong : (many : ℕ) (d : Does) → None ≡ split_bit many d → false ≡ is_closing d → d ≡ wrong
is_wrong many (splits a) e f = none_split many a e
is_wrong many closes e f = clash refl (sym f)
is_wrong many wrong e f = refl

is_closing_lem : (many : ℕ) (d : Does) → None ≡ split_bit many d → true ≡ is_closing d → d ≡ closes
is_closing_lem many (splits a) e f = none_split many a e
is_closing_lem many closes e f = refl
is_closing_lem many wrong e f = clash (sym f) refl

is_split : (many bit : ℕ) (d : Does) → Some bit ≡ split_bit many d → (a : ℕ) × (d ≡ splits a) × (2 ^ (many - 1 - a) ≡ bit)
is_split many bit (splits a) e = (a, refl, let z : bit ≡ 2 ^ (many - 1 - a) = cc in sym z)
is_split many bit closes e = absurd (let z : ◌≡◌ {A = ℕ} 0 1 = cc in omega arith)
is_split many bit wrong e = absurd (let z : ◌≡◌ {A = ℕ} 0 1 = cc in omega arith)

-- ---- the machine from a place of the words

module _ (words code ends list : List ℕ) (many contacts : ℕ) (few : many ≤ 16) (b : Branch) (at : ℕ) where
  abbrev Reaches : ℕ → Branch → Result ℕ NotClosed → Type 0
  Reaches i x r = ReachedSays words code ends list many contacts x i r

  abbrev word : ℕ
  word = get_or words at 0

  pub reached_end : at ≡ length words → Reaches at b (not_closed_at at)
  unfolding ReachedSays
  reached_end e names atoms rules c p h parts =
      ap (λ (ws : List ℕ). run many rules (no_floor plain names atoms) at (p ∷ parts) ws) (drop_of_length-le words {i = at} (omega arith))

  module _ (l : at < length words) where
    -- one step
    step : (names : ℕ) (atoms : List (Atom ℕ)) (rules : List (Form ℕ)) (p : PartialRow) (parts : List PartialRow) (d : Does)
        → does many rules (no_floor plain names atoms) p word ≡ d
        → run many rules (no_floor plain names atoms) at (p ∷ parts) (drop at words)
        ≡ unless d at (run many rules (no_floor plain names atoms) (at + 1) (after d p parts) (drop (at + 1) words))
    step names atoms rules p parts d e =
        ap (λ (ws : List ℕ). run many rules (no_floor plain names atoms) at (p ∷ parts) ws) (rest words at 0 l)
        ∙ ap (λ (x : Does). unless x at (run many rules (no_floor plain names atoms) (suc at) (after x p parts) (drop (at + 1) words))) e
        ∙ ap (λ (k : ℕ). unless d at (run many rules (no_floor plain names atoms) k (after d p parts) (drop (at + 1) words))) (sym (add-one at))

    pub reached_wrong : SplitSays many b.known word None → (r : Bool) → r ≡ false → ClosesSays code ends list many contacts b word r → Reaches at b (not_closed_at at)
    unfolding ReachedSays SplitSays ClosesSays
    reached_wrong split-says r e says-closes names atoms rules c p h parts =
        step names atoms rules p parts wrong
        (is_wrong many _ (split-says rules (no_floor plain names atoms) p h.known_is) (sym e ∙ says-closes names atoms rules c p h))

    pub reached_close : SplitSays many b.known word None → (r : Bool) → r ≡ true → ClosesSays code ends list many contacts b word r → Reaches at b (Ok (at + 1))
    unfolding ReachedSays SplitSays ClosesSays
    reached_close split-says r e says-closes names atoms rules c p h parts =
        step names atoms rules p parts closes
        (is_closing_lem many _ (split-says rules (no_floor plain names atoms) p h.known_is) (sym e ∙ says-closes names atoms rules c p h))

    module _ (bit : ℕ) (split-says : SplitSays many b.known word (Some bit)) where
      -- the branches with the atom decided
      abbrev yes : Branch
      yes = record { known = bit_or b.known bit; truth = bit_or b.truth bit }

      abbrev no : Branch
      no = record { known = bit_or b.known bit; truth = b.truth }

      record Split (names : ℕ) (atoms : List (Atom ℕ)) (rules : List (Form ℕ)) (p : PartialRow) : Type 0 where
        atom : ℕ
        split_is : does many rules (no_floor plain names atoms) p word ≡ splits atom
        first_is : IsBranch many yes (decided p atom true)
        second_is : IsBranch many no (decided p atom false)

      split : (names : ℕ) (atoms : List (Atom ℕ)) (rules : List (Form ℕ)) (p : PartialRow) → IsBranch many b p → Split names atoms rules p
      unfolding SplitSays
      split names atoms rules p h =
          let s = is_split many bit (does many rules (no_floor plain names atoms) p word) (split-says rules (no_floor plain names atoms) p h.known_is) in
          let NoPlan : PartialRow → Type 0 = λ q. no_floor plain names atoms q ≡ true in
          let right : Splits many p s.0 =
          (subst (Says many rules NoPlan (no_floor plain names atoms) (λ q k. (λ e. e, λ e. e)) p h.short word) s.1
          (says many rules NoPlan (no_floor plain names atoms) (λ q k. (λ e. e, λ e. e)) p h.short word)).1 in
          record {
            atom = s.0;
            split_is = s.1;
            first_is = subst (λ (x : ℕ). IsBranch many (record { known = bit_or b.known x; truth = bit_or b.truth x }) (decided p s.0 true)) s.2
                (branch_true many few b p h s.0 right.named right.undecided);
            second_is = subst (λ (x : ℕ). IsBranch many (record { known = bit_or b.known x; truth = b.truth }) (decided p s.0 false)) s.2
                (branch_false many few b p h s.0 right.named right.undecided);
          }

      pub reached_first : (e : NotClosed) → Reaches (at + 1) yes (Err e) → Reaches at b (Err e)
      unfolding ReachedSays
      reached_first e first = λ names atoms rules c p h parts.
          let s = split names atoms rules p h in
          step names atoms rules p parts (splits s.atom) s.split_is
          ∙ first names atoms rules c (decided p s.atom true) s.first_is (decided p s.atom false ∷ parts)

      pub reached_second : (m : ℕ) → Reaches (at + 1) yes (Ok m) → (q : Result ℕ NotClosed) → Reaches m no q → Reaches at b q
      unfolding ReachedSays
      reached_second m ended q second = go q second
        where
          both : (names : ℕ) (atoms : List (Atom ℕ)) (rules : List (Form ℕ)) → Comes code ends list many contacts names atoms rules
              → (p : PartialRow) → (s : Split names atoms rules p) → (parts : List PartialRow)
              → run many rules (no_floor plain names atoms) at (p ∷ parts) (drop at words)
              ≡ run many rules (no_floor plain names atoms) m (decided p s.atom false ∷ parts) (drop m words)
          both names atoms rules c p s parts =
              step names atoms rules p parts (splits s.atom) s.split_is
              ∙ ended names atoms rules c (decided p s.atom true) s.first_is (decided p s.atom false ∷ parts)

          go : (q : Result ℕ NotClosed) → Reaches m no q → Reaches at b q
          go (Ok end) then = λ names atoms rules c p h parts.
              let s = split names atoms rules p h in
              both names atoms rules c p s parts ∙ then names atoms rules c (decided p s.atom false) s.second_is parts
          go (Err e) then = λ names atoms rules c p h parts.
              let s = split names atoms rules p h in
              both names atoms rules c p s parts ∙ then names atoms rules c (decided p s.atom false) s.second_is parts

-- ---- how far the words have been read

pub moves_both : (at m long : ℕ) (q : Result ℕ NotClosed) → Moves (at + 1) long (Ok m) → Moves m long q → Moves at long q
moves_both at m long (Ok end) h k = (omega arith, k.1)
moves_both at m long (Err e) h k = tt

-- fewer words are left
pub fewer : (long at next left : ℕ) → long - at ≡ left → at < next → next ≤ long → long - next < left
fewer long at next left e l h = omega arith

-- ---- the checker

module _ (words code ends : List ℕ) (chart : Chart) (contacts : ℕ) (list list' : List ℕ) (count : ℕ)
    (spelt : Spelt chart.atoms (contact_at chart) contacts) (listed : ListSays chart list list' count) where
  abbrev From : Result ℕ NotClosed → Type 0
  From r = ReachedSays words code ends (part list' 0 count) chart.atoms contacts (record { known = 0; truth = 0 }) 0 r

  comes : (atoms : List (Atom ℕ)) (rules : List (Form ℕ)) → ComesFrom code ends chart atoms rules
      → Comes code ends (part list' 0 count) chart.atoms contacts chart.names atoms rules
  comes atoms rules c =
      let z : count ≡ count - 0 = omega arith in
      record {
        counted = c.compiled.counted;
        coded = c.coded;
        contacts_are = contacts_are chart atoms contacts c.compiled spelt;
        serving = subst (λ (x : ℕ). Serving chart.names atoms (take x list')) z (listed.are atoms c.compiled);
      }

  -- the verdict for as many atoms as the chart has
  verdict : (atoms : List (Atom ℕ)) (rules : List (Form ℕ)) → ComesFrom code ends chart atoms rules
      → run chart.atoms rules (no_floor plain chart.names atoms) 0 (root ∷ []) words ≡ checked (length atoms) rules (no_floor plain chart.names atoms) words
  unfolding checked
  verdict atoms rules c = ap (λ (n : ℕ). run n rules (no_floor plain chart.names atoms) 0 (root ∷ []) words) c.compiled.counted

  pub check_stop : (e : NotClosed) → From (Err e) → CheckSays words code ends chart (Err e)
  unfolding CheckSays ReachedSays
  check_stop e stopped atoms rules c =
      sym (stopped chart.names atoms rules (comes atoms rules c) root (root_branch chart.atoms) []) ∙ verdict atoms rules c

  pub check_whole : (m : ℕ) → From (Ok m) → m ≡ length words → CheckSays words code ends chart (Ok tt)
  unfolding CheckSays ReachedSays
  check_whole m ended l atoms rules c =
      sym (ended chart.names atoms rules (comes atoms rules c) root (root_branch chart.atoms) []
      ∙ ap (λ (ws : List ℕ). run chart.atoms rules (no_floor plain chart.names atoms) m [] ws) (drop_of_length-le words {i = m} (omega arith)))
      ∙ verdict atoms rules c

  pub check_after : (m : ℕ) → From (Ok m) → m < length words → CheckSays words code ends chart (not_closed_at m)
  unfolding CheckSays ReachedSays
  check_after m ended l atoms rules c =
      sym (ended chart.names atoms rules (comes atoms rules c) root (root_branch chart.atoms) []
      ∙ ap (λ (ws : List ℕ). run chart.atoms rules (no_floor plain chart.names atoms) m [] ws) (rest words m 0 l))
      ∙ verdict atoms rules c
