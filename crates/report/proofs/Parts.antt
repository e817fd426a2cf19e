-- The line of a point is gathered name by name, and that of a contact has both positions. Assumes nothing.
use mathlib.Core.Path.{◌≡◌, refl, sym, ap, ◌∙◌}
use mathlib.Core.List.{List, [], ◌∷◌, ◌++◌}
use Prim.Native.Nat.{ℕ, ◌+◌, ◌*◌, ◌/◌, ◌%◌, ◌<◌}
use native.Mathlib.Omega.{arith}
use lib.ListN.{length}
use Rattle.formula.specs.Formula.{Name}
use Rattle.lexer.specs.Text.{bytes}
use Rattle.lists.specs.Search.{collect, below, or_else}
use Rattle.lists.proofs.Search.{collect_collect}
use Rattle.report.specs.Lines.{labelled, ended, blanked, name_if, point_names, names_or_none, contact_line}

pub names_parts : (names : List Name) (e : ℕ)
    → collect blanked (point_names names e) ≡ collect (λ i. collect blanked (name_if names e i)) (below (length names))
unfolding point_names
names_parts names e = collect_collect blanked (name_if names e) (below (length names))

-- the names of a point, or the sign that there are none
none_listed : (ws : List Name) → length (collect blanked ws) ≡ 0 → ws ≡ []
none_listed [] e = refl
none_listed (w ∷ ws) e = absurd (omega arith)

some_listed : (ws none : List Name) → 0 < length (collect blanked ws) → or_else ws none ≡ ws
some_listed [] none h = absurd (omega arith)
some_listed (w ∷ ws) none h = refl

module _ (names : List Name) (e : ℕ) where
  pub no_names : length (collect blanked (point_names names e)) ≡ 0
      → collect blanked (point_names names e) ++ bytes " -" ≡ collect blanked (names_or_none names e)
  unfolding names_or_none
  no_names h =
      let z = none_listed (point_names names e) h in
      ap (λ (ws : List Name). collect blanked ws ++ bytes " -") z ∙ ap (λ (ws : List Name). collect blanked (or_else ws (bytes "-" ∷ []))) (sym z)

  pub some_names : 0 < length (collect blanked (point_names names e)) → collect blanked (point_names names e) ≡ collect blanked (names_or_none names e)
  unfolding names_or_none
  some_names h = ap (collect blanked) (sym (some_listed (point_names names e) (bytes "-" ∷ []) h))

-- the line of a contact
pub contact_text : (i j : ℕ) → j < 256 → contact_line (i * 256 + j) ≡ ended (labelled (bytes "contact ") i ++ labelled (bytes " ") j)
unfolding contact_line
contact_text i j h =
    let q : (i * 256 + j) / 256 ≡ i = omega arith in
    let r : (i * 256 + j) % 256 ≡ j = omega arith in
    rw (q, r)
