-- The codes of the chosen rules one behind the other: each part that is chosen is put behind those before it, where it is still the code of its
-- rule, and what was put so far is no longer than what was passed. Assumes nothing.
use mathlib.Core.Bool.{Bool, true, false, cond}
use mathlib.Core.Path.{◌≡◌, refl, sym, ap, ap₂, subst, ◌∙◌}
use mathlib.Core.List.{List, [], ◌∷◌, ◌++◌, append-nil}
use Prim.Native.Nat.{ℕ, suc, ◌+◌, ◌-◌, ◌≤◌, ◌<◌}
use native.Mathlib.Omega.{arith}
use lib.ListN.{length, get_or, take, drop, set, length-set, take-append-drop}
use lib.Seq.{sets, length-sets, take-set-le, get_or-set_same, take_all, length-take-le}
use Rattle.formula.specs.Formula.{Form}
use Rattle.lists.proofs.Lists.{rest, take_next}
use Rattle.solver.specs.Coded.{part, PartSafe, SafeFrom, PartIs, CodedFrom, Coded}
use Rattle.solver.proofs.Codes.{part_length}
use Rattle.ruleset.specs.Ends.{last_end}
use Rattle.ruleset.proofs.Coding.{coded_with, sets_first, sets_part}
use Rattle.clashing.specs.Clash.{chosen}
use Rattle.clashing.proofs.Choosing.{chosen_next, chosen_short}

-- of the rules whose codes the parts are, the first i are passed, and those of them that are chosen are put
pub record PassedTo (many : ℕ) (code ends : List ℕ) (s : List Bool) (out kept : List ℕ) (count from i : ℕ) (rules : List (Form ℕ)) : Type 0 where
  pub as_many : length rules ≡ length ends
  pub put : Coded many out (take count kept) (chosen (take i s) (take i rules))
  pub to_come : CodedFrom many code from (drop i ends) (drop i rules)

-- so far
pub record PutTo (code ends : List ℕ) (s : List Bool) (before out kept : List ℕ) (count at from i : ℕ) : Type 0 where
  pub i_few : i ≤ length ends
  pub count_few : count ≤ i
  pub at_few : at ≤ from
  pub from_few : from ≤ length code
  pub kept_long : length kept ≡ 16
  pub out_long : length out ≡ length before
  pub last : last_end 0 (take count kept) ≡ at
  pub safe : SafeFrom code from (drop i ends)
  pub passed : (many : ℕ) (rules : List (Form ℕ)) → Coded many code ends rules → PassedTo many code ends s out kept count from i rules

coded_many : (many : ℕ) (code : List ℕ) (from : ℕ) (ends : List ℕ) (rules : List (Form ℕ)) → CodedFrom many code from ends rules → length rules ≡ length ends
coded_many many code from [] [] h = refl
coded_many many code from [] (rule ∷ rules) h = absurd h
coded_many many code from (end ∷ ends) [] h = absurd h
coded_many many code from (end ∷ ends) (rule ∷ rules) h = ap suc (coded_many many code end ends rules h.1)

-- nothing at first
pub put_none : (code ends : List ℕ) (s : List Bool) (out kept : List ℕ) → SafeFrom code 0 ends → length kept ≡ 16 → PutTo code ends s out out kept 0 0 0 0
put_none code ends s out kept safe long =
    record {
      i_few = omega arith;
      count_few = omega arith;
      at_few = omega arith;
      from_few = omega arith;
      kept_long = long;
      out_long = refl;
      last = refl;
      safe = safe;
      passed = λ many rules h. record { as_many = coded_many many code 0 ends rules h; put = tt; to_come = h };
    }

module _ (code ends : List ℕ) (s : List Bool) (before out kept : List ℕ) (count at from i : ℕ) (p : PutTo code ends s before out kept count at from i) (more : i < length ends)
    (wide : i < length s) where
  -- the next part
  abbrev end : ℕ
  end = get_or ends i 0

  next_ends : drop i ends ≡ end ∷ drop (i + 1) ends
  next_ends = rest ends i 0 more

  pub next_safe : PartSafe code from end × SafeFrom code end (drop (i + 1) ends)
  next_safe = subst (SafeFrom code from) next_ends p.safe

  module _ (many : ℕ) (rules : List (Form ℕ)) (h : Coded many code ends rules) where
    abbrev rule : Form ℕ
    rule = get_or rules i Form.truth

    there : i < length rules
    there = omega (arith, (p.passed many rules h).as_many)

    pub next_part : PartIs many code from end rule × CodedFrom many code end (drop (i + 1) ends) (drop (i + 1) rules)
    next_part =
        subst (CodedFrom many code from (end ∷ drop (i + 1) ends)) (rest rules i Form.truth there)
        (subst (λ (es : List ℕ). CodedFrom many code from es (drop i rules)) next_ends (p.passed many rules h).to_come)

    next_chosen : chosen (take (i + 1) s) (take (i + 1) rules) ≡ chosen (take i s) (take i rules) ++ cond (get_or s i false) (rule ∷ []) []
    next_chosen =
        ap (λ (k : ℕ). chosen (take k s) (take k rules)) (let e : i + 1 ≡ suc i = omega arith in e) ∙ chosen_next i s rules Form.truth wide there

  -- a part that is not chosen is passed
  pub put_pass : get_or s i false ≡ false → PutTo code ends s before out kept count at end (i + 1)
  put_pass not_in =
      record {
        i_few = omega arith;
        count_few = omega (arith, p.count_few);
        at_few = omega (arith, p.at_few, next_safe.0.ordered);
        from_few = next_safe.0.within;
        kept_long = p.kept_long;
        out_long = p.out_long;
        last = p.last;
        safe = next_safe.1;
        passed = λ many rules h. record {
          as_many = (p.passed many rules h).as_many;
          put = subst (Coded many out (take count kept))
              (sym (next_chosen many rules h ∙ ap (λ (b : Bool). chosen (take i s) (take i rules) ++ cond b (rule many rules h ∷ []) []) not_in ∙ append-nil (chosen (take i s) (take i rules))))
              (p.passed many rules h).put;
          to_come = (next_part many rules h).1;
        };
      }

  -- one that is chosen is put behind those before it
  module _ (is-in : get_or s i false ≡ true) (room : length code ≤ length before) (few : length ends ≤ 16) where
    abbrev piece : List ℕ
    piece = part code from end

    piece_long : length piece ≡ end - from
    piece_long = part_length code from end next_safe.0.ordered next_safe.0.within

    pub piece_fits : at + length piece ≤ length out
    piece_fits = omega (arith, p.at_few, p.out_long, piece_long, next_safe.0.ordered, next_safe.0.within)

    abbrev out' : List ℕ
    out' = sets out at piece

    abbrev at' : ℕ
    at' = at + length piece

    abbrev kept' : List ℕ
    kept' = set kept count at'

    place : count < length kept
    place = omega (arith, p.count_few, p.kept_long)

    kept_next : take (count + 1) kept' ≡ take count kept ++ at' ∷ []
    kept_next =
        take_next kept' count 0 (omega (arith, length-set kept count at', place))
        ∙ ap₂ (λ (l : List ℕ) (x : ℕ). l ++ x ∷ []) (take-set-le count kept count at' (omega arith)) (get_or-set_same kept count at' 0 place)

    last_next : (from : ℕ) (l : List ℕ) (x : ℕ) → last_end from (l ++ x ∷ []) ≡ x
    last_next from [] x = refl
    last_next from (y ∷ l) x = last_next y l x

    module _ (many : ℕ) (rules : List (Form ℕ)) (h : Coded many code ends rules) where
      part_put : PartIs many out' at at' (rule many rules h)
      part_put =
          let q = (next_part many rules h).0 in
          record {
            ordered = omega arith;
            within = omega (arith, length-sets out at piece, piece_fits);
            is_code = sets_part at piece out piece_fits ∙ q.is_code;
            short = q.short;
            atoms_below = q.atoms_below;
          }

      put_next : Coded many out' (take (count + 1) kept') (chosen (take (i + 1) s) (take (i + 1) rules))
      put_next =
          subst (λ (es : List ℕ). Coded many out' es (chosen (take (i + 1) s) (take (i + 1) rules))) (sym kept_next)
          (subst (Coded many out' (take count kept ++ at' ∷ []))
          (sym (next_chosen many rules h ∙ ap (λ (b : Bool). chosen (take i s) (take i rules) ++ cond b (rule many rules h ∷ []) []) is-in))
          (coded_with many many out out' (omega arith) (length-sets out at piece) 0 (take count kept) (chosen (take i s) (take i rules)) at' (rule many rules h)
          (p.passed many rules h).put
          (subst (λ (k : ℕ). take k out' ≡ take k out) (sym p.last) (sets_first at piece out piece_fits))
          (subst (λ (k : ℕ). PartIs many out' k at' (rule many rules h)) (sym p.last) part_put)))

    more_put : PutTo code ends s before out' kept' (count + 1) at' end (i + 1)
    more_put =
        record {
          i_few = omega arith;
          count_few = omega (arith, p.count_few);
          at_few = omega (arith, p.at_few, piece_long, next_safe.0.ordered);
          from_few = next_safe.0.within;
          kept_long = length-set kept count at' ∙ p.kept_long;
          out_long = length-sets out at piece ∙ p.out_long;
          last = ap (last_end 0) kept_next ∙ last_next 0 (take count kept) at';
          safe = next_safe.1;
          passed = λ many rules h. record { as_many = (p.passed many rules h).as_many; put = put_next many rules h; to_come = (next_part many rules h).1 };
        }

    pub put_more : (place : ℕ) (exit : List ℕ) → place ≡ at' → exit ≡ out' → PutTo code ends s before exit (set kept count place) (count + 1) place end (i + 1)
    put_more k exit e f =
        subst (λ (k : ℕ). PutTo code ends s before exit (set kept count k) (count + 1) k end (i + 1)) (sym e)
        (subst (λ (l : List ℕ). PutTo code ends s before l kept' (count + 1) at' end (i + 1)) (sym f) more_put)

-- at the end all are passed
pub put_all : (code ends : List ℕ) (s : List Bool) (before out kept : List ℕ) (count at from i : ℕ) → PutTo code ends s before out kept count at from i → length ends ≤ i
    → length ends ≤ length s → (many : ℕ) (rules : List (Form ℕ)) → Coded many code ends rules → Coded many out (take count kept) (chosen s rules)
put_all code ends s before out kept count at from i p all wide many rules h =
    let q = p.passed many rules h in
    let whole : length rules ≤ i = omega (arith, q.as_many, all) in
    subst (Coded many out (take count kept))
    (ap (chosen (take i s)) (take_all i rules whole) ∙ sym (chosen_short (take i s) (drop i s) rules (omega (arith, q.as_many, p.i_few, length-take-le i s (omega (arith, p.i_few)))))
    ∙ ap (λ (t : List Bool). chosen t rules) (take-append-drop i s))
    q.put
