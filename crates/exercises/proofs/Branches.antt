-- The lines of a walk: none, one, or those of its branches one after the other. Assumes nothing.
use mathlib.Core.Path.{◌≡◌, refl, sym, ap, ◌∙◌}
use mathlib.Core.Bool.{Bool, true, false, cond}
use mathlib.Core.List.{List, [], ◌∷◌, ◌++◌, append-nil}
use Prim.Native.Nat.{ℕ, zero, suc, ◌+◌, ◌-◌, ◌≤◌, ◌<◌}
use native.Mathlib.Omega.{arith}
use lib.ListN.{length, take, drop, get_or, length-append, take-append-drop}
use Rattle.lists.specs.Search.{collect, below}
use Rattle.lists.proofs.Search.{collect_collect, collect_append, collect_last}
use Rattle.lists.proofs.Lists.{take_next}
use Rattle.exercises.specs.Tokens.{count}
use Rattle.exercises.specs.Lines.{line}
use Rattle.exercises.specs.Book.{whole, begun, walk}
use Rattle.lists.specs.Putting.{Puts}
use Rattle.lists.proofs.Putting.{puts_text, puts_more, fits_next}

pub whole_text : (ks : List ℕ) → true ≡ whole ks → collect line (walk 0 ks) ≡ line ks
unfolding walk
whole_text ks e = ap (λ (b : Bool). collect line (cond b (ks ∷ []) [])) (sym e) ∙ append-nil (line ks)

pub unwhole_text : (ks : List ℕ) → false ≡ whole ks → collect line (walk 0 ks) ≡ []
unfolding walk
unwhole_text ks e = ap (λ (b : Bool). collect line (cond b (ks ∷ []) [])) (sym e)

-- the lines of the strings that go on with the token k
abbrev pub branch : ℕ → List ℕ → ℕ → List ℕ
branch left ks k = collect line (walk (left - 1) (ks ++ k ∷ []))

pub unbegun_text : (left : ℕ) (ks : List ℕ) → (left ≡ 0 → ⊥) → false ≡ begun ks → collect line (walk left ks) ≡ []
unfolding walk
unbegun_text zero ks h e = absurd (h refl)
unbegun_text (suc m) ks h e = ap (λ (b : Bool). collect line (cond b (collect (λ k. walk m (ks ++ k ∷ [])) (below count)) [])) (sym e)

pub begun_text : (left : ℕ) (ks : List ℕ) → (left ≡ 0 → ⊥) → true ≡ begun ks → collect line (walk left ks) ≡ collect (branch left ks) (below 20)
unfolding walk
begun_text zero ks h e = absurd (h refl)
begun_text (suc m) ks h e =
    let q : m ≡ suc m - 1 = omega arith in
    ap (λ (b : Bool). collect line (cond b (collect (λ k. walk m (ks ++ k ∷ [])) (below count)) [])) (sym e)
    ∙ collect_collect line (λ k. walk m (ks ++ k ∷ [])) (below count)
    ∙ ap (λ (j : ℕ). collect (λ k. collect line (walk j (ks ++ k ∷ []))) (below 20)) q

module _ (left : ℕ) (ks ts : List ℕ) where
  -- those of the first i of these tokens
  abbrev pub branches : ℕ → List ℕ
  branches i = collect (branch left ks) (take i ts)

  branches_next : (i : ℕ) → i < length ts → branches (i + 1) ≡ branches i ++ branch left ks (get_or ts i 0)
  branches_next i h = ap (collect (branch left ks)) (take_next ts i 0 h) ∙ collect_last (branch left ks) (take i ts) (get_or ts i 0)

  branches_within : (i : ℕ) → length (branches i) ≤ length (collect (branch left ks) ts)
  branches_within i =
      let rest : List ℕ = collect (branch left ks) (drop i ts) in
      let all : collect (branch left ks) ts ≡ branches i ++ rest =
      ap (collect (branch left ks)) (sym (take-append-drop i ts)) ∙ collect_append (branch left ks) (take i ts) (drop i ts) in
      omega (arith, ap length all, length-append (branches i) rest)

  module _ {at : ℕ} {buffer mid : List ℕ} {end : ℕ} (i : ℕ) (h : i < length ts) (before : Puts at (branches i) buffer mid end) where
    abbrev this : List ℕ
    this = branch left ks (get_or ts i 0)

    pub branch_fits : at + length (collect (branch left ks) ts) ≤ length buffer → end + length this ≤ length mid
    branch_fits r =
        fits_next before (length this) (omega (arith, r, branches_within (i + 1), ap length (branches_next i h), length-append (branches i) this))

    pub branch_puts : {exit : List ℕ} {last : ℕ} → Puts end this mid exit last → Puts at (branches (i + 1)) buffer exit last
    branch_puts puts = puts_text (sym (branches_next i h)) (puts_more before puts)
