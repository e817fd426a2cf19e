-- The code of one rule more stands behind that of the rules before it, and the bytes before it are kept, so each part is still the code
-- of its rule; a part has at most 256 signs, so the code of 16 rules fits into 4096 bytes. Assumes nothing.
use mathlib.Core.Path.{◌≡◌, refl, sym, ap, subst, ◌∙◌}
use mathlib.Core.List.{List, [], ◌∷◌, ◌++◌, append_assoc}
use Prim.Native.Nat.{ℕ, zero, suc, ◌+◌, ◌*◌, ◌-◌, ◌≤◌, ◌<◌}
use native.Mathlib.Omega.{arith}
use lib.ListN.{length, get_or, take, drop}
use lib.Seq.{sets, sets-eq, length-take-le, take_at, drop_at}
use Rattle.formula.specs.Formula.{Form}
use Rattle.solver.specs.Coded.{part, PartIs, CodedFrom, Coded}
use Rattle.solver.proofs.Codes.{part_length, part_kept}
use Rattle.ruleset.specs.Ends.{last_end}

-- ---- where the last part ends

last_after : (many : ℕ) (code : List ℕ) (from : ℕ) (ends : List ℕ) (rules : List (Form ℕ)) → CodedFrom many code from ends rules
    → from ≤ last_end from ends
last_after many code from [] rules h = omega arith
last_after many code from (end ∷ ends) [] h = absurd h
last_after many code from (end ∷ ends) (rule ∷ rules) h = omega (arith, h.0.ordered, last_after many code end ends rules h.1)

part_short : (many : ℕ) (code : List ℕ) (from end : ℕ) (rule : Form ℕ) → PartIs many code from end rule → end ≤ from + 256
part_short many code from end rule p = omega (arith, p.ordered, p.short, ap length p.is_code, part_length code from end p.ordered p.within)

-- a part has at most 256 signs
pub last_few : (many : ℕ) (code : List ℕ) (from : ℕ) (ends : List ℕ) (rules : List (Form ℕ)) → CodedFrom many code from ends rules
    → last_end from ends ≤ from + 256 * length rules
last_few many code from [] rules h = omega arith
last_few many code from (end ∷ ends) [] h = absurd h
last_few many code from (end ∷ ends) (rule ∷ rules) h =
    omega (arith, part_short many code from end rule h.0, last_few many code end ends rules h.1)

-- read from the array
pub last_at : (ends : List ℕ) (from n : ℕ) → n < length ends → last_end from (take (suc n) ends) ≡ get_or ends n 0
last_at [] from n l = absurd (omega arith)
last_at (end ∷ ends) from zero l = refl
last_at (end ∷ ends) from (suc n) l = last_at ends end n (omega arith)

-- of no rule there is none
pub coded_none : (many : ℕ) (code ends : List ℕ) (n : ℕ) → n ≡ 0 → Coded many code (take n ends) []
coded_none many code ends n e = subst (λ (k : ℕ). Coded many code (take k ends) []) (sym e) tt

-- ---- one part more

module _ (many more : ℕ) (code out : List ℕ) (grown : many ≤ more) (long : length out ≡ length code) where
  part_with : (from end last : ℕ) (rule : Form ℕ) → end ≤ last → take last out ≡ take last code → PartIs many code from end rule → PartIs more out from end rule
  part_with from end last rule k s p =
      record {
        ordered = p.ordered;
        within = omega (arith, p.within);
        is_code = part_kept code out from end last p.ordered k p.within long s ∙ p.is_code;
        short = p.short;
        atoms_below = λ i h. omega (arith, p.atoms_below i h);
      }

  pub coded_with : (from : ℕ) (ends : List ℕ) (rules : List (Form ℕ)) (end : ℕ) (rule : Form ℕ) → CodedFrom many code from ends rules
      → take (last_end from ends) out ≡ take (last_end from ends) code → PartIs more out (last_end from ends) end rule
      → CodedFrom more out from (ends ++ end ∷ []) (rules ++ rule ∷ [])
  coded_with from [] [] end rule h s p = (p, tt)
  coded_with from [] (r ∷ rules) end rule h s p = absurd h
  coded_with from (e ∷ ends) [] end rule h s p = absurd h
  coded_with from (e ∷ ends) (r ∷ rules) end rule h s p = (
    part_with from e (last_end e ends) r (last_after many code e ends rules h.1) s h.0,
    coded_with e ends rules end rule h.1 s p,
  )

-- ---- the part that is written

module _ (from : ℕ) (ws buf : List ℕ) (fits : from + length ws ≤ length buf) where
  parts : sets buf from ws ≡ take from buf ++ (ws ++ drop (from + length ws) buf)
  parts = sets-eq ws buf from fits ∙ append_assoc (take from buf) ws (drop (from + length ws) buf)

  pub sets_first : take from (sets buf from ws) ≡ take from buf
  sets_first =
      ap (take from) parts
      ∙ take_at (take from buf) (ws ++ drop (from + length ws) buf) from (length-take-le from buf (omega arith))

  pub sets_part : part (sets buf from ws) from (from + length ws) ≡ ws
  sets_part =
      ap (λ (l : List ℕ). part l from (from + length ws)) parts
      ∙ ap (take (from + length ws - from))
      (drop_at (take from buf) (ws ++ drop (from + length ws) buf) from (length-take-le from buf (omega arith)))
      ∙ take_at ws (drop (from + length ws) buf) (from + length ws - from) (omega arith)
