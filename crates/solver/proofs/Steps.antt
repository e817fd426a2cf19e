-- A walk over a set of rows, least first. A row outside the set has no good row under it; so what is found under the row that is taken is the
-- first good row, or that row is passed too. Assumes nothing.
use mathlib.Core.Bool.{true, false, true≢false}
use mathlib.Core.Path.{◌≡◌, refl, sym, ap, ◌∙◌}
use mathlib.Core.List.{List, [], ◌∷◌}
use Prim.Native.Nat.{ℕ, ◌+◌, ◌*◌, ◌^◌, ◌≤◌, ◌<◌}
use native.Mathlib.Omega.{arith}
use Rattle.std.specs.Prelude.{Option, None, is_some}
use Rattle.lists.specs.Search.{first, below}
use Rattle.evalset.specs.Bit.{word_levels, bit}
use Rattle.kleene.specs.Rails.{word_rows}
use lib.Pow.{pow_mono}
use Rattle.evalset.specs.Sets.{drop_of, from_of, found_of}
use Rattle.evalset.proofs.Walk.{from_zero, Step, stop}
use Rattle.contact.specs.Row.{Row}
use Rattle.contact.specs.Tableau.{under}
use Rattle.search.specs.declared.Chart.{Chart}
use Rattle.search.specs.Rows.{row_bits}
use Rattle.solver.specs.declared.Cut.{Cut}
use Rattle.solver.specs.Tree.{Low, answer_for, Given, Left, good_for, Finds}
use Rattle.solver.proofs.Walks.{Passed, walk_none, walk_at, passed_none, passed_before, passed_more}
use Rattle.solver.proofs.Under.{closed_none}

-- ---- what an answer tells of the rows

pub none_answered : (rows : List Row) → is_some (answer_for rows) ≡ false → rows ≡ []
none_answered [] e = refl
none_answered (row ∷ rows) e = absurd (true≢false e)

some_answered : (rows : List Row) → is_some (answer_for rows) ≡ true → (row : Row) × (rest : List Row) × (rows ≡ row ∷ rest)
some_answered [] e = absurd (true≢false (sym e))
some_answered (row ∷ rows) e = (row, rows, refl)

-- ---- the walk

-- the rows with d atoms more under the row of k atoms, s atoms after them, for all that H holds of
module _ {code ends : List ℕ} {chart : Chart} {cut : Cut} (H : Given code ends chart cut → Type 0) (k row d s : ℕ) where
  -- those below `at` are passed, and the others of the set are left
  pub record Walked (left rest : ℕ) (at : ℕ) : Type 0 where
    pub rest_is : bit rest ≡ from_of at (bit left)
    pub passed : (g : Given code ends chart cut) → H g → Passed (good_for g) k row d s at

  -- a turn takes the e-th, under which x is found: this is the answer, or the e-th is passed
  pub record Turn (left rest : ℕ) (e : ℕ) (x : Option ℕ) : Type 0 where
    pub finds : is_some x ≡ true → (g : Given code ends chart cut) → H g → Finds g k row (d + s) x
    pub passes : is_some x ≡ false → (less : ℕ) → bit less ≡ drop_of (bit rest) e → Walked left less (e + 1)

  pub walk_starts : (left : ℕ) → Walked left left 0
  walk_starts left = record { rest_is = from_zero (bit left); passed = λ g h. passed_none (good_for g) k row d s }

  module _ (left : ℕ) (closed : (g : Given code ends chart cut) → H g → Left g k row d left) (rest : ℕ) (at : ℕ) (w : Walked left rest at) where
    -- up to e none is in the set
    on_to : (e : ℕ) → ((j : ℕ) → at ≤ j → j < e → j < 2 ^ d → bit left j ≡ false) → (g : Given code ends chart cut) → H g → Passed (good_for g) k row d s e
    on_to e none g h =
        passed_before (good_for g) k row d s at e (w.passed g h)
        (λ j l m y. closed_none g (row_bits (k + d) (row * 2 ^ d + j)) s (closed g h j y (none j l m y)))

    -- none is left
    pub walk_ends : d ≤ word_levels → ((j : ℕ) → at ≤ j → j < word_rows → bit left j ≡ false) → (g : Given code ends chart cut) → H g → Finds g k row (d + s) None
    walk_ends few none g h =
        ap answer_for (sym (walk_none (good_for g) k row d s (on_to (2 ^ d) (λ j l m y. none j l (omega (arith, pow_mono {i = d} {j = word_levels} few))) g h)))

    pub walk_stops : d ≤ word_levels → found_of (first (bit rest) (below word_rows)) ≡ None → (g : Given code ends chart cut) → H g → Finds g k row (d + s) None
    walk_stops few f = walk_ends few (stop word_rows at (bit left) (bit rest) w.rest_is f)

    -- the e-th is taken, and x is found under it
    pub turn : Low d left → (e : ℕ) → Step word_rows at e (bit left) (bit rest) → (j next : ℕ) → row_bits j next ≡ row_bits (k + d) (row * 2 ^ d + e)
        → (x : Option ℕ) → ((g : Given code ends chart cut) → H g → Finds g j next s x) → Turn left rest e x
    turn low e t j next same x says = record {
      finds = λ q g h.
          let w = some_answered _ (ap is_some (sym (here g h)) ∙ q) in
          here g h ∙ ap answer_for (w.2 ∙ sym (walk_at (good_for g) k row d s e (low e t.passes) (before g h) w.0 w.1 w.2));
      passes = λ q less m. record {
        rest_is = m ∙ t.rest;
        passed = λ g h. passed_more (good_for g) k row d s e (before g h) (none_answered _ (ap is_some (sym (here g h)) ∙ q));
      };
    }
      where
        here : (g : Given code ends chart cut) → H g → Finds g (k + d) (row * 2 ^ d + e) s x
        here g h = says g h ∙ ap (λ (r : Row). answer_for (first (good_for g) (under r s))) same

        before : (g : Given code ends chart cut) → H g → Passed (good_for g) k row d s e
        before = on_to e (λ j l m y. t.between j l m)
