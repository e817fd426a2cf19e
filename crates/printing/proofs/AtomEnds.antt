-- The place that is sought is the end of the atom with its number: before the atom's sign there are as many signs of atoms, so it is
-- neither earlier nor later. Its text is part of the formula's, so no longer. Assumes nothing.
use mathlib.Core.Path.{◌≡◌, refl, sym, ap, subst, ◌∙◌}
use mathlib.Core.Logic.{⊎_elim}
use mathlib.Core.Bool.{Bool}
use mathlib.Core.List.{List, [], ◌∷◌, ◌++◌, map, append_assoc}
use Prim.Native.Nat.{ℕ, suc, ◌+◌, ◌-◌, ◌≤◌, ◌<◌}
use native.Mathlib.Omega.{arith}
use lib.ListN.{length, take, drop, replicate, length-append, length-map, take-append-drop}
use lib.Seq.{take_at}
use Rattle.lists.specs.Search.{In, collect}
use Rattle.lists.proofs.Search.{none_in, in_one, in_either, placed, collect_append}
use Rattle.lists.proofs.Lists.{map_take}
use Rattle.lists.specs.Padded.{pad}
use Rattle.lists.proofs.Padded.{pad_taken}
use Rattle.formula.specs.declared.Sign.{Sign}
use Rattle.formula.specs.declared.Sign.TheVariants.{Implies, Iff, Or, And}
use Rattle.formula.specs.Formula.{Term, Atom, Form, Formula, Name}
use Rattle.formula.specs.Atoms.{atoms_of}
use Rattle.lexer.specs.Token.{Token, bytes_of}
use Rattle.lexer.specs.Cutting.{Cutting}
use Rattle.lexer.specs.Arrays.{code_of, tokens_of}
use Rattle.syntax.specs.Symbol.{Symbol, binary, symbol_of, symbol_names}
use Rattle.syntax.specs.Postfix.{formula_after, postfix, Value, top_formula, formula_of, names_among}
use Rattle.syntax.specs.Machine.{Sym}
use Rattle.syntax.specs.Reader.{code, codes}
use Rattle.syntax.specs.Rule.{meaning_of, tokens_in}
use Rattle.syntax.specs.RuleText.{symbols_of}
use Rattle.syntax.specs.declared.Rule.{Rule}
use Rattle.syntax.proofs.Rules.{kinds_read}
use Rattle.syntax.proofs.Unique.{formula_put}
use Rattle.syntax.proofs.Claims as syntax
use Rattle.printing.specs.Tokens.{Position, left_of, right_of, after_prefix, OwnSign, operand, joined, formula_sign, formula_tokens, atom_tokens}
use Rattle.printing.specs.Text.{text_of}
use Rattle.printing.specs.Prints.{WasRead, atom_at, atom_text}
use Rattle.printing.specs.Places.{order_to, names_to, formula_to, text_to, Ends, makes_atom, is_name, counted, Seekable, Seeking}
use Rattle.printing.specs.declared.Place.{Place}
use Rattle.printing.proofs.Levels.{asked, by_level}
use Rattle.printing.proofs.Sizes.{size, size_written, size_append, operand_size}
use Rattle.printing.proofs.Lengths.{text_shorter}
use Rattle.printing.proofs.Walking.{kinds_first, is_rule, read_as, cut_as}
use Rattle.printing.proofs.Counting.{one_if, counted_append, counted_most, names_counted}
use Rattle.printing.proofs.Atoms.{signs_in, signs_last, Found, in_formula}
use Rattle.printing.proofs.Seeking.{less}

-- ---- an atom is no longer than the formula

-- an operand is no shorter than its tokens
operand_least : (p : Position) (o : OwnSign) (ts : List (Symbol Name)) → size ts ≤ size (operand p o ts)
operand_least p o ts = omega (arith, (operand_size (asked p) o ts).0, ap size (by_level p o ts))

module _ (a : Atom Name) where
  -- the atom, if it is one of these, has at most n bytes
  abbrev Within : List (Atom Name) → ℕ → Type 0
  Within xs n = In a xs → size (atom_tokens a) ≤ n

  in_sides : (b : Sign) (f g : Formula Name) → Within (atoms_of f) (size (formula_tokens f)) → Within (atoms_of g) (size (formula_tokens g))
      → Within (atoms_of f ++ atoms_of g) (size (joined b (formula_sign f) (formula_tokens f) (formula_sign g) (formula_tokens g)))
  unfolding size
  in_sides b f g p q i =
      let l = operand (left_of b) (formula_sign f) (formula_tokens f) in
      let r = operand (right_of b) (formula_sign g) (formula_tokens g) in
      let e = size_append l (binary b ∷ r) in
      ⊎_elim (λ j. omega (arith, p j, operand_least (left_of b) (formula_sign f) (formula_tokens f), e)) (λ j. omega (arith, q j, operand_least (right_of b) (formula_sign g) (formula_tokens g), e))
      (in_either (atoms_of f) (atoms_of g) i)

  atom_shorter : (f : Formula Name) → Within (atoms_of f) (size (formula_tokens f))
  unfolding formula_tokens size
  atom_shorter Form.truth i = none_in i
  atom_shorter Form.falsity i = none_in i
  atom_shorter (Form.atom b) i = let e = ap (λ (c : Atom Name). size (atom_tokens c)) (in_one i) in omega (arith, e)
  atom_shorter (Form.negation f) i = omega (arith, atom_shorter f i, operand_least after_prefix (formula_sign f) (formula_tokens f))
  atom_shorter (Form.conjunction f g) i = in_sides And f g (atom_shorter f) (atom_shorter g) i
  atom_shorter (Form.disjunction f g) i = in_sides Or f g (atom_shorter f) (atom_shorter g) i
  atom_shorter (Form.implication f g) i = in_sides Implies f g (atom_shorter f) (atom_shorter g) i
  atom_shorter (Form.equivalence f g) i = in_sides Iff f g (atom_shorter f) (atom_shorter g) i

pub atom_text_shorter : (f : Formula Name) (a : Atom Name) → In a (atoms_of f) → length (text_of (Form.atom a)) ≤ length (text_of f)
unfolding text_of formula_tokens
atom_text_shorter f a i = omega (arith, size_written (atom_tokens a), size_written (formula_tokens f), atom_shorter a f i)

-- ---- zeros behind an array's numbers count for nothing

module _ (p : ℕ → Bool) (z : counted p (0 ∷ []) ≡ 0) where
  counted_zeros : (n : ℕ) → counted p (replicate n 0) ≡ 0
  unfolding counted
  counted_zeros ℕ.zero = refl
  counted_zeros (suc n) = omega (arith, counted_append p (0 ∷ []) (replicate n 0), counted_zeros n, z)

  counted_pad : (n : ℕ) (xs : List ℕ) → counted p (pad n xs) ≡ counted p xs
  unfolding pad
  counted_pad n xs = omega (arith, counted_append p xs (replicate (n - length xs) 0), counted_zeros (n - length xs))

signs_pad : (xs : List ℕ) → counted makes_atom (pad 256 xs) ≡ counted makes_atom xs
unfolding counted makes_atom
signs_pad xs = counted_pad makes_atom refl 256 xs

names_pad : (xs : List ℕ) → counted is_name (pad 256 xs) ≡ counted is_name xs
unfolding counted
names_pad xs = counted_pad is_name refl 256 xs

-- ---- names

-- the names of the first symbols, and those of the others
names_split : (xs : List Sym) (i : ℕ) → names_among (take i xs) ++ names_among (drop i xs) ≡ names_among xs
unfolding names_among
names_split xs i = sym (collect_append symbol_names (take i xs) (drop i xs)) ∙ ap (collect symbol_names) (take-append-drop i xs)

-- two lists that begin with as many names
same_front : (a b c d : List Name) → a ++ b ≡ c ++ d → length a ≡ length c → a ≡ c
same_front a b c d e n = sym (take_at a b (length a) refl) ∙ ap (take (length a)) e ∙ take_at c d (length a) (sym n)

module _ (s : List ℕ) (rule : Rule) (w : WasRead s rule) where
  abbrev order_of : List Sym
  order_of = postfix (meaning_of s)

  abbrev ts : List Token
  ts = (is_rule s rule w).cut_tokens

  order_array : rule.order ≡ pad 256 (map code order_of)
  unfolding codes
  order_array = ap (λ (r : Rule). r.order) (read_as s rule w)

  kinds_array : rule.tokens.kinds ≡ pad 256 (map code (symbols_of s ts))
  unfolding codes tokens_of
  kinds_array =
      ap (λ (r : Rule). r.tokens.kinds) (read_as s rule w)
      ∙ ap (pad 256) (sym (kinds_read s ts (tokens_of ts) refl ∙ pad_taken 256 (map (λ (t : Token). code_of t.kind) ts) (length ts) (length-map ts (λ (t : Token). code_of t.kind))))

  same_names : names_among (symbols_of s ts) ≡ names_among order_of
  same_names = syntax.token_names (symbols_of s ts) (meaning_of s) (is_rule s rule w).derived ∙ sym (syntax.order_names (meaning_of s))

  module _ (which : ℕ) (h : which < length (atoms_of (meaning_of s))) where
    pub can_seek : length rule.order ≡ 256 → length rule.tokens.kinds ≡ 256 → Seekable rule.order rule.tokens.kinds which
    unfolding counted
    can_seek r q =
        record {
          atoms = omega (arith, h, ap (counted makes_atom) order_array, signs_pad (map code order_of), (in_formula (meaning_of s) []).counts);
          names =
              ap (counted is_name) order_array ∙ names_pad (map code order_of) ∙ names_counted order_of ∙ ap length (sym same_names)
              ∙ sym (ap (counted is_name) kinds_array ∙ names_pad (map code (symbols_of s ts)) ∙ names_counted (symbols_of s ts));
          room = r;
          wide = q;
        }

    module _ (p : Place) (g : Seeking rule.order rule.tokens.kinds which 0 p) where
      found : Found order_of (atom_at s which) which
      unfolding counted
      found = let e : signs_in [] + which ≡ which = omega arith in subst (Found order_of (atom_at s which)) e ((in_formula (meaning_of s) []).each which h)

      abbrev n : ℕ
      n = length found.lead

      long : n + 1 ≤ length order_of
      long = omega (arith, ap length found.split, length-append found.lead (found.sign ∷ found.rest))

      signs_to : (i : ℕ) → i ≤ length order_of → counted makes_atom (take i rule.order) ≡ signs_in (order_to s i)
      signs_to i l = ap (λ (a : List ℕ). counted makes_atom (take i a)) order_array ∙ ap (counted makes_atom) (kinds_first order_of i l)

      to_lead : order_to s n ≡ found.lead
      to_lead = ap (take n) found.split ∙ take_at found.lead (found.sign ∷ found.rest) n refl

      to_sign : order_to s (n + 1) ≡ found.lead ++ found.sign ∷ []
      to_sign =
          ap (take (n + 1)) (found.split ∙ sym (append_assoc found.lead (found.sign ∷ []) found.rest))
          ∙ take_at (found.lead ++ found.sign ∷ []) found.rest (n + 1) (length-append found.lead (found.sign ∷ []))

      before_sign : counted makes_atom (take n rule.order) ≡ which
      before_sign = signs_to n (omega (arith, long)) ∙ ap signs_in to_lead ∙ found.passed

      with_sign : counted makes_atom (take (n + 1) rule.order) ≡ which + 1
      with_sign =
          signs_to (n + 1) long ∙ ap signs_in to_sign ∙ signs_last found.lead found.sign ∙ ap (λ (b : Bool). signs_in found.lead + one_if b) found.one
          ∙ ap (λ (i : ℕ). i + 1) found.passed

      place_is : p.order ≡ n + 1
      place_is =
          let a : n < p.order = less n p.order (λ l. absurd (omega (arith, counted_most makes_atom rule.order p.order n l, before_sign, g.atoms))) in
          let b : p.order - 1 < n + 1 = less (p.order - 1) (n + 1) (λ l. absurd (omega (arith, counted_most makes_atom rule.order (n + 1) (p.order - 1) l, with_sign, g.last))) in
          omega (arith, a, b)

      order_is : order_to s p.order ≡ formula_after (Form.atom (atom_at s which)) found.before
      order_is = ap (order_to s) place_is ∙ to_sign ∙ found.ends

      formula_is : formula_to s p.order ≡ Form.atom (atom_at s which)
      formula_is = ap (λ (o : List Sym). formula_of o) order_is ∙ ap (λ (v : List (Value Name)). top_formula v) (formula_put (Form.atom (atom_at s which)) found.before [])

      pub atom_text_lem : text_to s p.order ≡ atom_text s which
      unfolding text_to atom_text
      atom_text_lem = ap text_of formula_is

      -- ---- the tokens

      tokens_within : p.tokens ≤ length ts
      tokens_within =
          let l : length (symbols_of s ts) ≡ length ts = length-map ts _ in
          g.tokens (length ts)
          (ap (λ (a : List ℕ). counted is_name (take (length ts) a)) kinds_array ∙ ap (counted is_name) (pad_taken 256 (map code (symbols_of s ts)) (length ts) (length-map (symbols_of s ts) code ∙ l))
          ∙ sym (ap (counted is_name) kinds_array ∙ names_pad (map code (symbols_of s ts))))

      order_within : p.order ≤ length order_of
      order_within = omega (arith, place_is, long)

      as_many : length (names_among (take p.tokens (symbols_of s ts))) ≡ length (names_among (order_to s p.order))
      as_many =
          sym (names_counted (take p.tokens (symbols_of s ts))) ∙ ap (counted is_name) (sym (ap (take p.tokens) kinds_array ∙ kinds_first (symbols_of s ts) p.tokens (omega (arith, tokens_within, length-map ts (λ (t : Token). symbol_of t.kind (bytes_of s t))))))
          ∙ g.names ∙ ap (counted is_name) (ap (take p.order) order_array ∙ kinds_first order_of p.order order_within) ∙ names_counted (order_to s p.order)

      names_are : names_among (take p.tokens (symbols_of s ts)) ≡ names_among (order_to s p.order)
      names_are =
          same_front (names_among (take p.tokens (symbols_of s ts))) (names_among (drop p.tokens (symbols_of s ts))) (names_among (order_to s p.order)) (names_among (drop p.order order_of))
          (names_split (symbols_of s ts) p.tokens ∙ same_names ∙ sym (names_split order_of p.order)) as_many

      pub atom_ends : Ends s p
      unfolding text_to
      atom_ends =
          record {
            before = found.before;
            order = order_is ∙ ap (λ (f : Formula Name). formula_after f found.before) (sym formula_is);
            names = ap (λ (c : Cutting). names_to s (tokens_in c) p.tokens) (cut_as s rule w) ∙ ap names_among (map_take _ p.tokens ts) ∙ names_are;
            within = order_within;
            tokens = omega (arith, tokens_within, ap (λ (c : Cutting). length (tokens_in c)) (cut_as s rule w));
            fits =
                omega (arith, ap (λ (f : Formula Name). length (text_of f)) formula_is, atom_text_shorter (meaning_of s) (atom_at s which) (placed (Atom.empty Term.zero) (atoms_of (meaning_of s)) which h), text_shorter s (meaning_of s) (is_rule s rule w), (is_rule s rule w).short);
          }
