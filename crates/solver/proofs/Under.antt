-- What is found in a word is its first good row: a row that closes has no good row under it, and a whole row that does not close is good. A
-- row closes where a rule refutes it or where it fails the check, and a table has the check of each row. Assumes nothing.
use mathlib.Core.Bool.{Bool, true, false, not, ◌&&◌, ◌||◌, cond, and-true, and-false, or-true, and-eq-true_iff, not-not}
use mathlib.Core.Path.{◌≡◌, refl, sym, ap, ap₂, ◌∙◌, subst}
use mathlib.Core.List.{List, [], ◌∷◌, ◌++◌, map, append-nil}
use mathlib.Mathlib.Logic.Function.Defs.{congr_fun}
use Prim.Native.Nat.{ℕ, ◌+◌, ◌-◌, ◌*◌, ◌/◌, ◌^◌, ◌≤◌, ◌<◌}
use native.Mathlib.Omega.{arith}
use lib.ListN.{length}
use lib.Pow.{pow-add}
use Rattle.lists.specs.Search.{first, below}
use Rattle.lists.proofs.Below.{FirstSays, first_says}
use Rattle.lists.proofs.Search.{first_none, none_intro, map_elim}
use Rattle.lists.proofs.Truth.{clash, cases}
use Rattle.evalset.specs.Bit.{word_levels, bit}
use Rattle.kleene.specs.Rails.{word_rows}
use lib.Pow.{pow_mono}
use Rattle.evalset.specs.Sets.{meet_of}
use Rattle.formula.specs.Formula.{Atom, Form}
use Rattle.contact.specs.Question.{Question, plain, building}
use Rattle.contact.specs.Row.{Row, is, rules_true, Extends}
use Rattle.contact.specs.Plan.{row_marks}
use Rattle.contact.specs.Check.{check, rows, good}
use Rattle.contact.specs.Pieces.{check_pieces}
use Rattle.contact.specs.Tableau.{refutes, closes, under}
use Rattle.contact.proofs.Searching.{closes_sound, closes_exact, plain_sound, extends_prefix}
use Rattle.contact.proofs.Fewer.{building_plain}
use Rattle.search.specs.declared.Chart.{Chart}
use Rattle.search.specs.Asked.{question_of}
use Rattle.search.specs.Rows.{row_bits}
use Rattle.search.specs.Planned.{marks_in}
use Rattle.search.proofs.Rows.{row_length, number_back}
use Rattle.pairing.specs.Words.{Serving, lone, row_test, Judges}
use Rattle.solver.specs.declared.Cut.{Cut}
use Rattle.std.specs.Prelude.{Some}
use Rattle.solver.specs.Tree.{UnrefutedSays, WholeSays, answer_for, answer_of, CutFor, Given, Tested, RowsTested, WordsTested, Left, good_for, Finds, counts}
use Rattle.solver.proofs.Codes.{coded_numbers}
use Rattle.solver.proofs.Blocks.{RowsAre}
use Rattle.solver.proofs.Walks.{row_join, walk_none, walk_at}
use Rattle.solver.proofs.Places.{under_fits}

neither : (a b : Bool) → (not a && b) ≡ not (a || not b)
neither true b = refl
neither false b = sym (not-not b)

-- with the rules r, the plain check c and the check p of the pieces: what passes p passes c
both : (r c p : Bool) → (p ≡ true → c ≡ true) → (r && p) ≡ ((r && c) && p)
both r c true h = ap (λ (b : Bool). b && true) (sym (and-true r) ∙ ap (λ (b : Bool). r && b) (sym (h refl)))
both r c false h = and-false r ∙ sym (and-false (r && c))

good_counts : (q : Question) (names : ℕ) (atoms : List (Atom ℕ)) (rules : List (Form ℕ)) (row : Row)
    → good q names atoms rules row ≡ (good plain names atoms rules row && counts q names (row_marks atoms row))
unfolding good
good_counts plain names atoms rules row = sym (and-true (rules_true rules row && check names (row_marks atoms row)))
good_counts building names atoms rules row =
    both (rules_true rules row) (check names (row_marks atoms row)) (check_pieces names (row_marks atoms row)) (building_plain names (row_marks atoms row))

nested : (a p e q x : ℕ) → (a * p + e) * q + x ≡ a * (p * q) + (e * q + x)
nested a p e q x = omega arith

module _ {code ends : List ℕ} {chart : Chart} {cut : Cut} (g : Given code ends chart cut) where
  -- ---- a row that closes, and one that does not

  pub closed_none : (row : Row) (s : ℕ) → closes plain chart.names g.atoms g.rules (map is row) ≡ true → first (good_for g) (under row s) ≡ []
  closed_none row s h =
      first_none (good_for g) (under row s)
      (none_intro (good_for g) (under row s)
      (λ x i q. let w = map_elim (λ ext. row ++ ext) (rows s) i in
      clash q (ap (good_for g) w.1 ∙ plain_sound (question_of cut.asked) chart.names g.atoms g.rules (map is row) h (row ++ w.0) (extends_prefix row w.0))))

  -- a whole row is good for the plain question exactly if it does not close
  whole_good : (row : Row) → length row ≡ length g.atoms
      → not (closes plain chart.names g.atoms g.rules (map is row)) ≡ good plain chart.names g.atoms g.rules row
  whole_good row l =
      cases (closes plain chart.names g.atoms g.rules (map is row))
      (λ h. ap not h ∙ sym (closes_sound plain chart.names g.atoms g.rules (map is row) h row
      (subst (λ (r : Row). Extends r (map is row)) (append-nil row) (extends_prefix row []))))
      (λ h. ap not h ∙ sym (closes_exact plain chart.names g.atoms g.rules
      (coded_numbers (length g.atoms) code 0 ends g.rules g.coded) row l h))

  -- under a whole row there is itself
  whole_first : (row : Row) → first (good_for g) (under row 0) ≡ cond (good_for g row) (row ∷ []) []
  whole_first row = ap (λ (r : Row). cond (good_for g r) (r ∷ []) []) (append-nil row)

  -- ---- the test by a table

  -- of the rows with w atoms more, for the rows under one of them
  pub tested_below : (table : List ℕ) (one : Bool) (contacts low k row w d : ℕ) → Tested g table one contacts low k row (w + d)
      → (e j next : ℕ) → e < 2 ^ w → j ≡ k + w → next ≡ row * 2 ^ w + e → Tested g table one contacts low j next d
  tested_below table one contacts low k row w d h e j next l y z x m =
      let v : next * 2 ^ d + x ≡ row * 2 ^ (w + d) + (e * 2 ^ d + x) =
      ap (λ (i : ℕ). i * 2 ^ d + x) z ∙ nested row (2 ^ w) e (2 ^ d) x ∙ ap (λ (i : ℕ). row * i + (e * 2 ^ d + x)) (sym (pow-add 2 w d)) in
      let u : j + d ≡ k + (w + d) = omega arith in
      ap (row_test table one contacts low) v ∙ h (e * 2 ^ d + x) (under_fits w d e x l m)
      ∙ sym (ap₂ (λ (a b : ℕ). check chart.names (row_marks g.atoms (row_bits a b))) u v)

  -- by a table of the pairs' words
  module _ (ws : List ℕ) (cuts : CutFor ws cut) (serving : Serving chart.names g.atoms ws) where
    judged_tests : (table : List ℕ) (s d k row : ℕ) → Judges ws cut.contacts s d row table → k + d + s ≡ length g.atoms → row < 2 ^ k
        → Tested g table (lone s ws) (cut.contacts / 2 ^ s) (2 ^ d - 1) k row d
    unfolding Judges
    judged_tests table s d k row j whole fits =
        j chart.names g.atoms k whole (omega (arith, g.counted, cuts.fits.blocks, cuts.fits.words, cuts.fits.rows)) fits g.contacts_are serving

    pub rows_judged : (table : List ℕ) (row : ℕ) → row < 2 ^ cut.k → Judges ws cut.contacts 0 (cut.w + cut.r) row table → RowsTested g table row
    rows_judged table row fits j e l =
        let z : cut.contacts ≡ cut.contacts / 2 ^ 0 = omega arith in
        ap₂ (λ (b : Bool) (x : ℕ). row_test table b x (2 ^ (cut.w + cut.r) - 1) (row * 2 ^ (cut.w + cut.r) + e)) cuts.lone_is z
        ∙ judged_tests table 0 (cut.w + cut.r) cut.k row j (omega (arith, g.counted)) fits e l

    pub words_judged : (upper : List ℕ) → Judges ws cut.contacts cut.r (cut.k + cut.w) 0 upper → (e : ℕ) → e < 2 ^ cut.k → WordsTested g upper e
    words_judged upper j e l x m =
        ap (λ (b : Bool). row_test upper b (cut.contacts / 2 ^ cut.r) (2 ^ (cut.k + cut.w) - 1) (e * 2 ^ cut.w + x)) cuts.above_is
        ∙ tested_below upper _ _ _ 0 0 cut.k cut.w (judged_tests upper cut.r (cut.k + cut.w) 0 0 j (omega (arith, g.counted)) (omega arith))
        e cut.k e l (omega arith) (omega arith) x m

  module _ (k row d : ℕ) where
    -- ---- rows outside a set

    pub left_refuted : (r : ℕ) → UnrefutedSays code ends row k d r → Left g k row d r
    unfolding closes
    left_refuted r says e l h =
        ap (λ (b : Bool). b || not (check chart.names (row_marks g.atoms (row_bits (k + d) (row * 2 ^ d + e)))))
        (ap (λ (x : Row). refutes g.rules (map is x)) (sym (row_join k row d e l)) ∙ says.refuted (length g.atoms) g.rules g.coded e l h)

    pub left_meet : (a b r : ℕ) → bit r ≡ meet_of (bit a) (bit b) → Left g k row d a → Left g k row d b → Left g k row d r
    left_meet a b r q x y e l h =
        cases (bit a e) (λ t. y e l (sym (ap (λ (c : Bool). c && bit b e) t) ∙ sym (congr_fun q e) ∙ h)) (x e l)

    module _ (table : List ℕ) (one : Bool) (contacts bits : ℕ) (tests : Tested g table one contacts bits k row d)
        (low start : ℕ) (q : low ≡ bits) (z : start ≡ row * 2 ^ d) where
      test_is : (e : ℕ) → e < 2 ^ d
          → row_test table one contacts low (start + e) ≡ check chart.names (row_marks g.atoms (row_bits (k + d) (row * 2 ^ d + e)))
      test_is e l = ap₂ (λ (x y : ℕ). row_test table one contacts x (y + e)) q z ∙ tests e l

      pub left_tested : (r : ℕ) → RowsAre d r (λ e. row_test table one contacts low (start + e)) → Left g k row d r
      unfolding closes
      left_tested r rows e l h =
          ap (λ (b : Bool). refutes g.rules (map is (row_bits (k + d) (row * 2 ^ d + e))) || not b) (sym (test_is e l) ∙ sym (rows.are e l) ∙ h)
          ∙ or-true (refutes g.rules (map is (row_bits (k + d) (row * 2 ^ d + e))))

      -- ---- the first row of a word

      module _ (few : d ≤ word_levels) (fits : row < 2 ^ k) (whole : length g.atoms ≡ k + d) (set left : ℕ) (says : WholeSays code ends row k d set)
          (are : (e : ℕ) → bit left e ≡ (bit set e && row_test table one contacts low (start + e))) where
        -- those that are left are good for the plain question
        exact : (e : ℕ) → e < 2 ^ d → bit left e ≡ good plain chart.names g.atoms g.rules (row_bits (k + d) (row * 2 ^ d + e))
        unfolding closes
        exact e l =
            are e
            ∙ ap₂ ◌&&◌
            (says.are (length g.atoms) g.rules g.coded (omega (arith, whole)) e l
            ∙ ap (λ (x : Row). not (refutes g.rules (map is x))) (row_join k row d e l)) (test_is e l)
            ∙ neither (refutes g.rules (map is (row_bits (k + d) (row * 2 ^ d + e))))
            (check chart.names (row_marks g.atoms (row_bits (k + d) (row * 2 ^ d + e))))
            ∙ whole_good (row_bits (k + d) (row * 2 ^ d + e)) (row_length (k + d) (row * 2 ^ d + e) ∙ sym whole)

        -- and those of them that count are good for what is asked
        chosen_good : (e : ℕ) → e < 2 ^ d
            → (bit left e && counts (question_of cut.asked) chart.names (marks_in chart g.atoms (start + e))) ≡ good_for g (row_bits (k + d) (row * 2 ^ d + e))
        chosen_good e l =
            ap₂ ◌&&◌ (exact e l)
            (ap₂ (λ (n i : ℕ). counts (question_of cut.asked) chart.names (row_marks g.atoms (row_bits n i))) (g.compiled.counted ∙ whole)
            (ap (λ (i : ℕ). i + e) z))
            ∙ sym (good_counts (question_of cut.asked) chart.names g.atoms g.rules (row_bits (k + d) (row * 2 ^ d + e)))

        pub word_first : Finds g k row d (answer_of start (first (λ e. bit left e && counts (question_of cut.asked) chart.names (marks_in chart g.atoms (start + e))) (below word_rows)))
        word_first =
            let y : d + 0 ≡ d = omega arith in
            go (first picked (below word_rows)) (first_says picked 0 word_rows) ∙ ap (λ (s : ℕ). answer_for (first (good_for g) (under (row_bits k row) s))) y
          where
            picked : ℕ → Bool
            picked e = bit left e && counts (question_of cut.asked) chart.names (marks_in chart g.atoms (start + e))

            at_row : (e : ℕ) → e < 2 ^ d → (b : Bool) → picked e ≡ b
                → first (good_for g) (under (row_bits (k + d) (row * 2 ^ d + e)) 0) ≡ cond b (row_bits (k + d) (row * 2 ^ d + e) ∷ []) []
            at_row e l b h =
                whole_first (row_bits (k + d) (row * 2 ^ d + e))
                ∙ ap (λ (c : Bool). cond c (row_bits (k + d) (row * 2 ^ d + e) ∷ []) []) (sym (chosen_good e l) ∙ h)

            go : (xs : List ℕ) → FirstSays picked 0 word_rows xs → Finds g k row (d + 0) (answer_of start xs)
            go [] s =
                ap answer_for (sym (walk_none (good_for g) k row d 0
                (λ e l m. at_row e m false (s e (omega arith) (omega (arith, pow_mono {i = d} {j = word_levels} few))))))
            go (x ∷ xs) s =
                let t : bit left x ≡ true = ((and-eq-true_iff (bit left x) (counts (question_of cut.asked) chart.names (marks_in chart g.atoms (start + x)))).0 s.2).0 in
                let l : x < 2 ^ d = says.low x ((and-eq-true_iff (bit set x) (row_test table one contacts low (start + x))).0 (sym (are x) ∙ t)).0 in
                ap Some (ap (λ (y : ℕ). y + x) z ∙ sym (number_back (k + d) (row * 2 ^ d + x) (under_fits k d row x fits l)))
                ∙ ap answer_for (sym (walk_at (good_for g) k row d 0 x l (λ e b m. at_row e m false (s.3 e (omega arith) b)) (row_bits (k + d) (row * 2 ^ d + x)) []
                (at_row x l true s.2)))
