-- Tokens written one after the other are cut as they were put, if no two words stand side by side and their names are names: what follows
-- a word opens no letter or digit, and nothing opens with ">". Assumes nothing.
use mathlib.Core.Path.{◌≡◌, refl, sym, ap, ap₂, subst, ◌∙◌}
use mathlib.Core.Bool.{Bool, true, false}
use mathlib.Core.List.{List, [], ◌∷◌, ◌++◌, append_assoc}
use Prim.Native.Nat.{ℕ, ◌+◌, ◌≤◌}
use native.Mathlib.Omega.{arith}
use lib.Dec.{eqb}
use lib.ListN.{length, take, drop, length-append}
use lib.Seq.{take-append_seam, drop-append_seam}
use borrow.Author.Tests.{eqb-true}
use Rattle.lists.proofs.Truth.{cases, clash}
use Rattle.lists.specs.Search.{here, collect}
use Rattle.formula.specs.declared.Sign.TheVariants.{Implies, Iff, Or, And, Plus, Times}
use Rattle.formula.specs.Formula.{Name}
use Rattle.lexer.specs.Class.{class_of, is_blank, is_alphanumeric, is_sign}
use Rattle.lexer.specs.ClassTable.{class_number}
use Rattle.lexer.specs.Token.{Token, token_of}
use Rattle.lexer.specs.Spelling.{token, Spelling, spelled, signs, starts, run_kind, constant_kind}
use Rattle.lexer.specs.Cutting.{tokens, match, Longest, AllAlphanumeric, NoAlphanumericFirst, Run, Cut, end, run, sign}
use Rattle.lexer.specs.Cutter.{longest}
use Rattle.lexer.specs.declared.Class.TheVariants as Class
use Rattle.lexer.specs.declared.Kind.{Kind}
use Rattle.lexer.proofs.Longest.{longest_is}
use Rattle.syntax.specs.Symbol.{Leaf, Symbol, leaf, minus, tilde, opening, closing, comma, is_zero, binary, constant, relation, contact, part, symbol_of, kind_of, symbol_names}
use Rattle.syntax.specs.Postfix.{names_among}
use Rattle.syntax.specs.RuleText.{symbols_of}
use Rattle.printing.specs.Text.{spelling, written}
use Rattle.printing.proofs.Named.{IsName, AreNames, named_parts}
use Rattle.printing.proofs.Apart.{word, Apart}

-- the tokens of what is written, from place i on
unfoldable pub tokens_from : ℕ → List (Symbol Name) → List Token
tokens_from i [] = []
tokens_from i (x ∷ xs) = token_of (kind_of x) i (length (spelling x)) ∷ tokens_from (i + length (spelling x)) xs

-- ---- what opens a text

-- the text does not open with the byte c
abbrev OpensNot : ℕ → List ℕ → Type 0
OpensNot c [] = Unit {0}
OpensNot c (b ∷ s) = eqb b c ≡ false

-- the bytes of a token: the first is no ">", and that of a token that is no word is a sign
abbrev Opens : Bool → List ℕ → Type 0
Opens w [] = ⊥
Opens w (b ∷ s) = (eqb b 62 ≡ false) × (w ≡ false → class_of b ≡ Class.Sign)

-- a byte of another class is another byte
other_byte : (b c : ℕ) → (class_of b ≡ class_of c → ⊥) → eqb b c ≡ false
other_byte b c h = cases (eqb b c) (λ e. absurd (h (ap class_of (eqb-true b c e)))) (λ e. e)

name_opens : (w : Name) → IsName w → Opens true w
unfolding class_of is_blank is_alphanumeric is_sign
name_opens [] n = omega (arith, n.some)
name_opens (b ∷ w) n = (other_byte b 62 (λ f. let z : ◌≡◌ {A = ℕ} 1 2 = ap class_number (sym n.letters.0 ∙ f) in omega arith), λ e. clash refl e)

opens : (x : Symbol Name) → AreNames (symbol_names x) → Opens (word x) (spelling x)
unfolding class_of is_blank is_alphanumeric is_sign
opens (leaf Leaf.zero) n = (refl, λ e. clash refl e)
opens (leaf Leaf.one) n = (refl, λ e. clash refl e)
opens (leaf (Leaf.name w)) n = name_opens w (n w here)
opens minus n = (refl, λ e. refl)
opens tilde n = (refl, λ e. refl)
opens opening n = (refl, λ e. refl)
opens closing n = (refl, λ e. refl)
opens comma n = (refl, λ e. refl)
opens is_zero n = (refl, λ e. refl)
opens (binary Implies) n = (refl, λ e. refl)
opens (binary Iff) n = (refl, λ e. refl)
opens (binary Or) n = (refl, λ e. refl)
opens (binary And) n = (refl, λ e. refl)
opens (binary Plus) n = (refl, λ e. refl)
opens (binary Times) n = (refl, λ e. refl)
opens (constant true) n = (refl, λ e. clash refl e)
opens (constant false) n = (refl, λ e. clash refl e)
opens (relation contact) n = (refl, λ e. clash refl e)
opens (relation part) n = (refl, λ e. clash refl e)

-- nothing opens with ">"
no_greater : (xs : List (Symbol Name)) → AreNames (names_among xs) → OpensNot 62 (written xs)
unfolding written
no_greater [] n = tt
no_greater (x ∷ xs) n = go (spelling x) (opens x (named_parts x xs n).0)
  where
    go : (ws : List ℕ) → Opens (word x) ws → OpensNot 62 (ws ++ collect spelling xs)
    go [] o = absurd o
    go (b ∷ ws) o = o.0

-- after a word no letter or digit opens
ends : (xs : List (Symbol Name)) → AreNames (names_among xs) → Apart true xs → NoAlphanumericFirst (written xs)
unfolding written
ends [] n a = tt
ends (x ∷ xs) n a = go (spelling x) (opens x (named_parts x xs n).0)
  where
    go : (ws : List ℕ) → Opens (word x) ws → NoAlphanumericFirst (ws ++ collect spelling xs)
    go [] o = absurd o
    go (b ∷ ws) o = λ f. let z : ◌≡◌ {A = ℕ} 2 1 = ap class_number (sym (o.1 a.0) ∙ f) in omega arith

-- and so no "m"
no_letter : (s : List ℕ) → NoAlphanumericFirst s → OpensNot 109 s
unfolding class_of is_blank is_alphanumeric is_sign
no_letter [] h = tt
no_letter (b ∷ s) h = other_byte b 109 (λ f. h f)

-- ---- one token before what follows it

module _ (i : ℕ) (s : List ℕ) (ts : List Token) where
  -- a run
  by_run : (w : List ℕ) → 1 ≤ length w → length w ≤ 16 → AllAlphanumeric w → NoAlphanumericFirst s → (k : Kind) → run_kind w ≡ k
      → Cut (i + length w) s (tokens ts) → Cut i (w ++ s) (tokens (token_of k i (length w) ∷ ts))
  by_run w a b c n k e h =
      let q : Run w s (w ++ s) = record { split = refl; some = a; all = c; ends = n } in
      subst (λ (m : Kind). Cut i (w ++ s) (tokens (token_of m i (length w) ∷ ts))) e (run q b h)

  -- a constant, or C
  by_letter : (b : ℕ) → class_of b ≡ Class.Alphanumeric → NoAlphanumericFirst s → (k : Kind) → constant_kind b ≡ k
      → Cut (i + 1) s (tokens ts) → Cut i (b ∷ s) (tokens (token_of k i 1 ∷ ts))
  by_letter b c n k e h = by_run (b ∷ []) (omega arith) (omega arith) (c, tt) n k e h

  -- a sign x, which is the longest
  by_sign : (b : ℕ) (r : List ℕ) (x : Spelling) (k : Kind) → class_of b ≡ Class.Sign → longest signs (b ∷ r) ≡ match x → x.means ≡ token k → drop (length x.bytes) (b ∷ r) ≡ s
      → Cut (i + length x.bytes) s (tokens ts) → Cut i (b ∷ r) (tokens (token_of k i (length x.bytes) ∷ ts))
  by_sign b r x k c e p d h =
      sign c (subst (Longest signs (b ∷ r)) e (longest_is (b ∷ r) signs)) p (subst (λ (t : List ℕ). Cut (i + length x.bytes) t (tokens ts)) (sym d) h)

-- "-" where no ">" follows, and "<=" where no "m" follows
longest_minus : (s : List ℕ) → OpensNot 62 s → longest signs (45 ∷ s) ≡ match (spelled "-" (token Kind.Minus))
unfolding signs longest starts
longest_minus [] h = refl
longest_minus (b ∷ s) h = simp h

longest_part : (s : List ℕ) → OpensNot 109 s → longest signs (60 ∷ 61 ∷ s) ≡ match (spelled "<=" (token Kind.Part))
unfolding signs longest starts
longest_part [] h = refl
longest_part (b ∷ s) h = simp h

one : (i : ℕ) (x : Symbol Name) (s : List ℕ) (ts : List Token) → AreNames (symbol_names x) → (word x ≡ true → NoAlphanumericFirst s) → OpensNot 62 s
    → Cut (i + length (spelling x)) s (tokens ts) → Cut i (spelling x ++ s) (tokens (token_of (kind_of x) i (length (spelling x)) ∷ ts))
unfolding signs longest starts class_of is_blank is_alphanumeric is_sign constant_kind
one i (leaf Leaf.zero) s ts n a o h = by_letter i s ts 48 refl (a refl) Kind.Zero refl h
one i (leaf Leaf.one) s ts n a o h = by_letter i s ts 49 refl (a refl) Kind.One refl h
one i (leaf (Leaf.name w)) s ts n a o h = let q = n w here in by_run i s ts w q.some q.short q.letters (a refl) Kind.Name q.other h
one i minus s ts n a o h = by_sign i s ts 45 s (spelled "-" (token Kind.Minus)) Kind.Minus refl (longest_minus s o) refl refl h
one i tilde s ts n a o h = by_sign i s ts 126 s (spelled "~" (token Kind.Not)) Kind.Not refl refl refl refl h
one i opening s ts n a o h = by_sign i s ts 40 s (spelled "(" (token Kind.Open)) Kind.Open refl refl refl refl h
one i closing s ts n a o h = by_sign i s ts 41 s (spelled ")" (token Kind.Close)) Kind.Close refl refl refl refl h
one i comma s ts n a o h = by_sign i s ts 44 s (spelled "," (token Kind.Comma)) Kind.Comma refl refl refl refl h
one i is_zero s ts n a o h = by_sign i s ts 61 (48 ∷ s) (spelled "=0" (token Kind.IsZero)) Kind.IsZero refl refl refl refl h
one i (binary Implies) s ts n a o h = by_sign i s ts 45 (62 ∷ s) (spelled "->" (token Kind.Implies)) Kind.Implies refl refl refl refl h
one i (binary Iff) s ts n a o h = by_sign i s ts 60 (45 ∷ 62 ∷ s) (spelled "<->" (token Kind.Iff)) Kind.Iff refl refl refl refl h
one i (binary Or) s ts n a o h = by_sign i s ts 124 s (spelled "|" (token Kind.Or)) Kind.Or refl refl refl refl h
one i (binary And) s ts n a o h = by_sign i s ts 38 s (spelled "&" (token Kind.And)) Kind.And refl refl refl refl h
one i (binary Plus) s ts n a o h = by_sign i s ts 43 s (spelled "+" (token Kind.Plus)) Kind.Plus refl refl refl refl h
one i (binary Times) s ts n a o h = by_sign i s ts 42 s (spelled "*" (token Kind.Times)) Kind.Times refl refl refl refl h
one i (constant true) s ts n a o h = by_letter i s ts 84 refl (a refl) Kind.Truth refl h
one i (constant false) s ts n a o h = by_letter i s ts 70 refl (a refl) Kind.Falsity refl h
one i (relation contact) s ts n a o h = by_letter i s ts 67 refl (a refl) Kind.Contact refl h
one i (relation part) s ts n a o h = by_sign i s ts 60 (61 ∷ s) (spelled "<=" (token Kind.Part)) Kind.Part refl (longest_part s (no_letter s (a refl))) refl refl h

-- ---- all tokens

-- after a token
apart_rest : (w : Bool) (x : Symbol Name) (xs : List (Symbol Name)) → Apart w (x ∷ xs) → Apart (word x) xs
apart_rest true x xs a = subst (λ (b : Bool). Apart b xs) (sym a.0) a.1
apart_rest false x xs a = a

pub cut_written : (xs : List (Symbol Name)) (w : Bool) (i : ℕ) → Apart w xs → AreNames (names_among xs) → Cut i (written xs) (tokens (tokens_from i xs))
unfolding written tokens_from
cut_written [] w i a n = end
cut_written (x ∷ xs) w i a n =
    let m = named_parts x xs n in
    let b = apart_rest w x xs a in
    one i x (written xs) (tokens_from (i + length (spelling x)) xs) m.0 (λ e. ends xs m.1 (subst (λ (t : Bool). Apart t xs) e b)) (no_greater xs m.1)
    (cut_written xs (word x) (i + length (spelling x)) b m.1)

-- ---- the symbols of these tokens are the tokens again

symbol_again : (x : Symbol Name) → symbol_of (kind_of x) (spelling x) ≡ x
symbol_again (leaf Leaf.zero) = refl
symbol_again (leaf Leaf.one) = refl
symbol_again (leaf (Leaf.name w)) = refl
symbol_again minus = refl
symbol_again tilde = refl
symbol_again opening = refl
symbol_again closing = refl
symbol_again comma = refl
symbol_again is_zero = refl
symbol_again (binary Implies) = refl
symbol_again (binary Iff) = refl
symbol_again (binary Or) = refl
symbol_again (binary And) = refl
symbol_again (binary Plus) = refl
symbol_again (binary Times) = refl
symbol_again (constant true) = refl
symbol_again (constant false) = refl
symbol_again (relation contact) = refl
symbol_again (relation part) = refl

symbols_from : (xs : List (Symbol Name)) (pre : List ℕ) (i : ℕ) → i ≡ length pre → symbols_of (pre ++ written xs) (tokens_from i xs) ≡ xs
unfolding written tokens_from
symbols_from [] pre i e = refl
symbols_from (x ∷ xs) pre i e =
    let r : List ℕ = collect spelling xs in
    let at : drop i (pre ++ (spelling x ++ r)) ≡ spelling x ++ r = ap (λ (n : ℕ). drop n (pre ++ (spelling x ++ r))) e ∙ drop-append_seam pre (spelling x ++ r) in
    let past : i + length (spelling x) ≡ length (pre ++ spelling x) = omega (arith, length-append pre (spelling x)) in
    ap₂ ◌∷◌ (ap (λ (t : List ℕ). symbol_of (kind_of x) (take (length (spelling x)) t)) at ∙ ap (symbol_of (kind_of x)) (take-append_seam (spelling x) r) ∙ symbol_again x)
    (ap (λ (t : List ℕ). symbols_of t (tokens_from (i + length (spelling x)) xs)) (sym (append_assoc pre (spelling x) r))
    ∙ symbols_from xs (pre ++ spelling x) (i + length (spelling x)) past)

pub symbols_again : (xs : List (Symbol Name)) → symbols_of (written xs) (tokens_from 0 xs) ≡ xs
symbols_again xs = symbols_from xs [] 0 refl
