-- "A written rule is never longer than the one that was read": whatever tokens are a term or a formula at a level, those that are
-- printed for it at that level take no more bytes. By induction on how the tokens are derived: a pair that is printed is one that the
-- derivation has too, since only a parenthesis raises the level. Assumes nothing.
use mathlib.Core.List.{List, [], ◌∷◌, ◌++◌}
use Prim.Native.Nat.{ℕ, suc, ◌≤◌}
use native.Mathlib.Omega.{arith}
use Rattle.formula.specs.Formula.{Term, Formula, Name}
use Rattle.formula.specs.declared.Sign.{Sign}
use Rattle.formula.specs.declared.Sign.TheVariants.{Implies, Iff, Or, And, Plus, Times}
use Rattle.formula.specs.Sign.{level_of, tightest}
use Rattle.syntax.specs.Symbol.{Leaf, Symbol, opening, closing, comma, is_zero, binary, relation, contact, part}
use Rattle.syntax.specs.Grammar.{IsTerm, IsFormula, t_leaf, t_minus, t_times, t_plus, t_parenthesis, t_looser, f_truth, f_falsity, f_contact, f_part, f_empty, f_tilde, f_and, f_or, f_implies, f_iff, f_parenthesis, f_looser}
use Rattle.printing.specs.Tokens.{OwnSign, left_of, right_of, after_prefix, operand, joined, term_sign, formula_sign, term_tokens, atom_tokens, formula_tokens}
use Rattle.printing.proofs.Levels.{at_level, by_level}
use Rattle.printing.proofs.Sizes.{size, size_pair, size_between, operand_size, operand_looser}

module _ (o : OwnSign) (ps ts : List (Symbol Name)) where
  -- in a parenthesis of its own
  in_pair : size (at_level 0 o ps) ≤ size ts → size (at_level tightest o ps) ≤ size (opening ∷ ts ++ closing ∷ [])
  in_pair h = omega (arith, (operand_size tightest o ps).1, (operand_size 0 o ps).0, size_pair ts, h)

  -- after ~ or -
  prefixed : size (at_level tightest o ps) ≤ size ts → size (operand after_prefix o ps) ≤ size ts
  prefixed h = rw (by_level after_prefix o ps) h

  module _ (p : OwnSign) (qs us : List (Symbol Name)) where
    -- round a binary sign
    round : (b : Sign) → size (at_level (level_of b) o ps) ≤ size ts → size (at_level (suc (level_of b)) p qs) ≤ size us → size (joined b o ps p qs) ≤ size (ts ++ binary b ∷ us)
    round b g h = rw (by_level (left_of b) o ps, by_level (right_of b) p qs) (size_between (binary b) _ _ ts us g h)

    in_relation : (x : Symbol Name) → size (at_level 0 o ps) ≤ size ts → size (at_level 0 p qs) ≤ size us
        → size (x ∷ opening ∷ ps ++ (comma ∷ qs ++ closing ∷ [])) ≤ size (x ∷ opening ∷ ts ++ (comma ∷ us ++ closing ∷ []))
    unfolding size
    in_relation x g h =
        omega (arith, size_between comma ps (qs ++ closing ∷ []) ts (us ++ closing ∷ []) (omega (arith, (operand_size 0 o ps).0)) (size_between closing qs [] us [] (omega (arith, (operand_size 0 p qs).0)) (omega arith)))

pub term_shorter : {l : ℕ} {ts : List (Symbol Name)} {t : Term Name} → IsTerm l ts t → size (at_level l (term_sign t) (term_tokens t)) ≤ size ts
unfolding term_tokens size
term_shorter (t_leaf {x = Leaf.zero}) = omega arith
term_shorter (t_leaf {x = Leaf.one}) = omega arith
term_shorter (t_leaf {x = Leaf.name w}) = omega arith
term_shorter (t_minus {ts = ts} {t = t} g) = omega (arith, prefixed (term_sign t) (term_tokens t) ts (term_shorter g))
term_shorter (t_times {ts = ts} {us = us} {t = t} {u = u} g h) = round (term_sign t) (term_tokens t) ts (term_sign u) (term_tokens u) us Times (term_shorter g) (term_shorter h)
term_shorter (t_plus {ts = ts} {us = us} {t = t} {u = u} g h) = round (term_sign t) (term_tokens t) ts (term_sign u) (term_tokens u) us Plus (term_shorter g) (term_shorter h)
term_shorter (t_parenthesis {ts = ts} {t = t} g) = in_pair (term_sign t) (term_tokens t) ts (term_shorter g)
term_shorter (t_looser {l = l} {t = t} g) = omega (arith, operand_looser l (term_sign t) (term_tokens t), term_shorter g)

pub formula_shorter : {l : ℕ} {ts : List (Symbol Name)} {f : Formula Name} → IsFormula l ts f → size (at_level l (formula_sign f) (formula_tokens f)) ≤ size ts
unfolding formula_tokens atom_tokens size
formula_shorter f_truth = omega arith
formula_shorter f_falsity = omega arith
formula_shorter (f_contact {ts = ts} {us = us} {t = t} {u = u} g h) = in_relation (term_sign t) (term_tokens t) ts (term_sign u) (term_tokens u) us (relation contact) (term_shorter g) (term_shorter h)
formula_shorter (f_part {ts = ts} {us = us} {t = t} {u = u} g h) = in_relation (term_sign t) (term_tokens t) ts (term_sign u) (term_tokens u) us (relation part) (term_shorter g) (term_shorter h)
formula_shorter (f_empty {ts = ts} {t = t} g) = size_between is_zero (term_tokens t) [] ts [] (omega (arith, (operand_size 0 (term_sign t) (term_tokens t)).0, term_shorter g)) (omega arith)
formula_shorter (f_tilde {ts = ts} {f = f} g) = omega (arith, prefixed (formula_sign f) (formula_tokens f) ts (formula_shorter g))
formula_shorter (f_and {ts = ts} {us = us} {f = f} {g = k} g h) = round (formula_sign f) (formula_tokens f) ts (formula_sign k) (formula_tokens k) us And (formula_shorter g) (formula_shorter h)
formula_shorter (f_or {ts = ts} {us = us} {f = f} {g = k} g h) = round (formula_sign f) (formula_tokens f) ts (formula_sign k) (formula_tokens k) us Or (formula_shorter g) (formula_shorter h)
formula_shorter (f_implies {ts = ts} {us = us} {f = f} {g = k} g h) = round (formula_sign f) (formula_tokens f) ts (formula_sign k) (formula_tokens k) us Implies (formula_shorter g) (formula_shorter h)
formula_shorter (f_iff {ts = ts} {us = us} {f = f} {g = k} g h) = round (formula_sign f) (formula_tokens f) ts (formula_sign k) (formula_tokens k) us Iff (formula_shorter g) (formula_shorter h)
formula_shorter (f_parenthesis {ts = ts} {f = f} g) = in_pair (formula_sign f) (formula_tokens f) ts (formula_shorter g)
formula_shorter (f_looser {l = l} {f = f} g) = omega (arith, operand_looser l (formula_sign f) (formula_tokens f), formula_shorter g)
