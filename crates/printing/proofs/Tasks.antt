-- The tasks of the walk: an operand at a level, a byte, or a name; each with its number on the stack, the bytes that it shows, the part
-- of the postfix order that it takes, and its names. An operand gives way to parts that show what it shows, take its order but for
-- its own sign, have its names, and whose numbers are a row of the table. By cases on the tree. Assumes nothing.
use mathlib.Core.Path.{◌≡◌, refl, sym, ap, ap₂, subst, ◌∙◌}
use mathlib.Core.Bool.{Bool, true, false, cond}
use mathlib.Core.List.{List, [], ◌∷◌, ◌++◌, map, append-nil, map-append}
use Prim.Native.Nat.{ℕ, ◌+◌, ◌≤◌, ◌<◌}
use native.Mathlib.Omega.{arith}
use borrow.Author.Rules.{rules}
use lib.Dec.{ltb}
use lib.ListN.{length, length-append}
use Rattle.lists.specs.Search.{collect, here}
use Rattle.lists.proofs.Search.{in_left, in_right, collect_append, collect_last}
use Rattle.formula.specs.declared.Sign.{Sign}
use Rattle.formula.specs.declared.Sign.TheVariants.{Implies, Iff, Or, And, Plus, Times}
use Rattle.formula.specs.Sign.{level_of, tightest}
use Rattle.formula.specs.Formula.{Term, Atom, Form, Formula, Name}
use Rattle.formula.specs.Names.{term_names, formula_names}
use Rattle.lexer.specs.Cutting.{Every}
use Rattle.syntax.specs.Symbol.{Leaf, Symbol, leaf, minus, tilde, opening, closing, comma, is_zero, binary, constant, relation, contact, part}
use Rattle.syntax.specs.Postfix.{term_after, formula_after}
use Rattle.syntax.specs.Reader.{code}
use Rattle.syntax.proofs.Ranks.{Tree, after}
use Rattle.printing.specs.Tokens.{OwnSign, own, none, Position, left_of, right_of, after_prefix, operand as operandTokens, joined, term_sign, formula_sign, term_tokens, atom_tokens, formula_tokens}
use Rattle.printing.specs.Text.{spelling, written}
use Rattle.printing.specs.Jobs.{sign_jobs, table, jobs_at, row_of}
use Rattle.printing.proofs.Levels.{asked, asked_most, at_level, by_level, no_pair}
use Rattle.printing.proofs.Named.{AreNames}

-- ---- a term (true) or a formula

abbrev sign_in : (s : Bool) → Tree s → OwnSign
sign_in true t = term_sign t
sign_in false f = formula_sign f

abbrev tokens_in : (s : Bool) → Tree s → List (Symbol Name)
tokens_in true t = term_tokens t
tokens_in false f = formula_tokens f

abbrev names_in : (s : Bool) → Tree s → List Name
names_in true t = term_names t
names_in false f = formula_names f

-- ---- tasks

pub data Task : Type 0 where
  operand : (s : Bool) (l : ℕ) → l ≤ tightest → Tree s → Task
  byte : (b : ℕ) → 4 < b → Task
  name : Name → Task

abbrev pub job : Task → ℕ
job (operand s l h t) = l
job (byte b h) = b
job (name w) = 4

abbrev pub shown : Task → List ℕ
shown (operand s l h t) = written (at_level l (sign_in s t) (tokens_in s t))
shown (byte b h) = b ∷ []
shown (name w) = w

abbrev pub names_of : Task → List Name
names_of (operand s l h t) = names_in s t
names_of (byte b h) = []
names_of (name w) = w ∷ []

-- the order of tasks behind the symbols o
abbrev pub behind : Task → List (Symbol Name) → List (Symbol Name)
behind (operand s l h t) o = after s t o
behind (byte b h) o = o
behind (name w) o = o

abbrev pub all_behind : List Task → List (Symbol Name) → List (Symbol Name)
all_behind [] o = o
all_behind (k ∷ ks) o = all_behind ks (behind k o)

pub behind_append : (ks js : List Task) (o : List (Symbol Name)) → all_behind (ks ++ js) o ≡ all_behind js (all_behind ks o)
behind_append [] js o = refl
behind_append (k ∷ ks) js o = behind_append ks js (behind k o)

-- an operand at the level that a position asks for
abbrev at : (s : Bool) → Position → Tree s → Task
at s p t = operand s (asked p) (asked_most p) t

-- the parts of an operand whose own sign is x, with its order, its text and its names, by the row r of the table
pub record Parts (x : Symbol Name) (order_of : List (Symbol Name) → List (Symbol Name)) (text : List ℕ) (ns : List Name) (r : ℕ) : Type 0 where
  pub parts : List Task
  pub order : (o : List (Symbol Name)) → all_behind parts o ++ x ∷ [] ≡ order_of o
  pub shows : collect shown parts ≡ text
  pub some : AreNames (collect names_of parts) → 1 ≤ length (collect shown parts)
  pub names : collect names_of parts ≡ ns
  pub jobs : map job parts ≡ jobs_at r
  pub low : r < 25

-- ---- bytes

abbrev High : List ℕ → Type 0
High ws = Every (λ (b : ℕ). 4 < b) ws

bytes_of : (ws : List ℕ) → High ws → List Task
bytes_of [] h = []
bytes_of (b ∷ ws) h = byte b h.0 ∷ bytes_of ws h.1

-- they are their own numbers and show themselves, and nothing else
module _ (ks : List Task) where
  bytes_shown : (ws : List ℕ) (h : High ws) → collect shown (bytes_of ws h ++ ks) ≡ ws ++ collect shown ks
  unfolding bytes_of
  bytes_shown [] h = refl
  bytes_shown (b ∷ ws) h = ap (λ (l : List ℕ). b ∷ l) (bytes_shown ws h.1)

  bytes_order : (ws : List ℕ) (h : High ws) (o : List (Symbol Name)) → all_behind (bytes_of ws h ++ ks) o ≡ all_behind ks o
  unfolding bytes_of
  bytes_order [] h o = refl
  bytes_order (b ∷ ws) h o = bytes_order ws h.1 o

  bytes_names : (ws : List ℕ) (h : High ws) → collect names_of (bytes_of ws h ++ ks) ≡ collect names_of ks
  unfolding bytes_of
  bytes_names [] h = refl
  bytes_names (b ∷ ws) h = bytes_names ws h.1

  bytes_jobs : (ws : List ℕ) (h : High ws) → map job (bytes_of ws h ++ ks) ≡ ws ++ map job ks
  unfolding bytes_of
  bytes_jobs [] h = refl
  bytes_jobs (b ∷ ws) h = ap (λ (l : List ℕ). b ∷ l) (bytes_jobs ws h.1)

-- ---- the shapes

-- what is written for tokens round one
written_between : (x : Symbol Name) (ts us : List (Symbol Name)) → written (ts ++ x ∷ us) ≡ written ts ++ (spelling x ++ written us)
unfolding written
written_between x ts us = collect_append spelling ts (x ∷ us)

-- what has no binary sign gets no pair
plainly : (l : ℕ) (ts : List (Symbol Name)) → l ≤ tightest → written ts ≡ written (at_level l none ts)
plainly l ts h = ap written (sym (no_pair l none ts h))

module _ (s : Bool) (t : Tree s) where
  -- an operand in its position
  in_position : (p : Position) → shown (at s p t) ≡ written (operandTokens p (sign_in s t) (tokens_in s t))
  in_position p = ap written (sym (by_level p (sign_in s t) (tokens_in s t)))

  -- and where nothing is asked for
  whole : shown (operand s 0 (omega arith) t) ≡ written (tokens_in s t)
  whole = ap written (no_pair 0 (sign_in s t) (tokens_in s t) (omega arith))

  -- after ~ or -, which is the byte b
  by_prefix : (x : Symbol Name) (b : ℕ) (q : 4 < b) → spelling x ≡ b ∷ [] → (l : ℕ) → l ≤ tightest → (r : ℕ) → jobs_at r ≡ b ∷ tightest ∷ [] → r < 25
      → Parts x (λ o. after s t o ++ x ∷ []) (written (at_level l none (x ∷ operandTokens after_prefix (sign_in s t) (tokens_in s t)))) (names_in s t) r
  unfolding written
  by_prefix x b q e l h r j k =
      record {
        parts = byte b q ∷ at s after_prefix t ∷ [];
        order = λ o. refl;
        shows =
            ap (λ (w : List ℕ). b ∷ w) (append-nil (shown (at s after_prefix t)) ∙ in_position after_prefix)
            ∙ ap (λ (w : List ℕ). w ++ written (operandTokens after_prefix (sign_in s t) (tokens_in s t))) (sym e)
            ∙ plainly l (x ∷ operandTokens after_prefix (sign_in s t) (tokens_in s t)) h;
        some = λ n. omega arith;
        names = append-nil (names_in s t);
        jobs = sym j;
        low = k;
      }

-- before =0
by_zero : (t : Term Name) (l : ℕ) → l ≤ tightest → Parts is_zero (λ o. term_after t o ++ is_zero ∷ []) (written (at_level l none (term_tokens t ++ is_zero ∷ []))) (term_names t) 10
unfolding written table jobs_at
by_zero t l h =
    record {
      parts = operand true 0 (omega arith) t ∷ byte 61 (omega arith) ∷ byte 48 (omega arith) ∷ [];
      order = λ o. refl;
      shows = ap (λ (w : List ℕ). w ++ spelling is_zero) (whole true t) ∙ sym (collect_last spelling (term_tokens t) is_zero) ∙ plainly l (term_tokens t ++ is_zero ∷ []) h;
      some = λ n. omega (arith, length-append (shown (operand true 0 (omega arith) t)) (spelling is_zero));
      names = append-nil (term_names t);
      jobs = refl;
      low = omega arith;
    }

-- in C or <=
by_relation : (x : Symbol Name) (q : High (spelling x)) (t u : Term Name) (l : ℕ) → l ≤ tightest → (r : ℕ) → jobs_at r ≡ spelling x ++ (40 ∷ 0 ∷ 44 ∷ 0 ∷ 41 ∷ []) → r < 25
    → Parts x (λ o. term_after u (term_after t o) ++ x ∷ []) (written (at_level l none (x ∷ opening ∷ term_tokens t ++ (comma ∷ term_tokens u ++ closing ∷ [])))) (term_names t ++ term_names u) r
unfolding written
by_relation x q t u l h r j k =
    record {
      parts = bytes_of (spelling x) q ++ rest;
      order = λ o. ap (λ (l : List (Symbol Name)). l ++ x ∷ []) (bytes_order rest (spelling x) q o);
      shows =
          bytes_shown rest (spelling x) q ∙ ap (λ (w : List ℕ). spelling x ++ (40 ∷ w)) (ap₂ (λ (v w : List ℕ). v ++ (44 ∷ w ++ 41 ∷ [])) (whole true t) (whole true u))
          ∙ ap (λ (w : List ℕ). spelling x ++ (40 ∷ w)) (ap (λ (w : List ℕ). written (term_tokens t) ++ (44 ∷ w)) (sym (collect_last spelling (term_tokens u) closing)) ∙ sym (written_between comma (term_tokens t) (term_tokens u ++ closing ∷ [])))
          ∙ plainly l (x ∷ opening ∷ term_tokens t ++ (comma ∷ term_tokens u ++ closing ∷ [])) h;
      some = λ n. omega (arith, ap length (bytes_shown rest (spelling x) q), length-append (spelling x) (collect shown rest));
      names = bytes_names rest (spelling x) q ∙ ap (λ (ns : List Name). term_names t ++ ns) (append-nil (term_names u));
      jobs = bytes_jobs rest (spelling x) q ∙ sym j;
      low = k;
    }
  where
    rest : List Task
    rest = byte 40 (omega arith) ∷ operand true 0 (omega arith) t ∷ byte 44 (omega arith) ∷ operand true 0 (omega arith) u ∷ byte 41 (omega arith) ∷ []

-- in a pair of parentheses, or not
pairing : (p : Bool) (x : Symbol Name) (o : List (Symbol Name) → List (Symbol Name)) (ts : List (Symbol Name)) (ns : List Name) (r : ℕ) → r < 6 → jobs_at (r + 19) ≡ 40 ∷ jobs_at r ++ 41 ∷ []
    → Parts x o (written ts) ns r → Parts x o (written (cond p (opening ∷ ts ++ closing ∷ []) ts)) ns (cond p (r + 19) r)
unfolding written
pairing false x o ts ns r k j g = g
pairing true x o ts ns r k j g =
    record {
      parts = byte 40 (omega arith) ∷ g.parts ++ byte 41 (omega arith) ∷ [];
      order = λ q. ap (λ (l : List (Symbol Name)). l ++ x ∷ []) (behind_append g.parts (byte 41 (omega arith) ∷ []) q) ∙ g.order q;
      shows = ap (λ (w : List ℕ). 40 ∷ w) (collect_last shown g.parts (byte 41 (omega arith)) ∙ ap (λ (w : List ℕ). w ++ 41 ∷ []) g.shows ∙ sym (collect_last spelling ts closing));
      some = λ n. omega arith;
      names = collect_last names_of g.parts (byte 41 (omega arith)) ∙ append-nil (collect names_of g.parts) ∙ g.names;
      jobs = ap (λ (w : List ℕ). 40 ∷ w) (map-append job g.parts (byte 41 (omega arith) ∷ []) ∙ ap (λ (w : List ℕ). w ++ 41 ∷ []) g.jobs) ∙ sym j;
      low = omega arith;
    }

-- the rows of a binary sign
record Rows (b : Sign) : Type 0 where
  plain : jobs_at (code (binary b)) ≡ sign_jobs b
  pair : jobs_at (code (binary b) + 19) ≡ 40 ∷ jobs_at (code (binary b)) ++ 41 ∷ []
  picked : (l : ℕ) → row_of (code (binary b)) l ≡ cond (ltb (level_of b) l) (code (binary b) + 19) (code (binary b))
  low : code (binary b) < 6
  high : High (spelling (binary b))
  some : 1 ≤ length (spelling (binary b))

rows : (b : Sign) → Rows b
unfolding table jobs_at row_of
rows Implies = record { plain = refl; pair = refl; picked = λ l. refl; low = omega arith; high = search rules; some = omega arith }
rows Iff = record { plain = refl; pair = refl; picked = λ l. refl; low = omega arith; high = search rules; some = omega arith }
rows Or = record { plain = refl; pair = refl; picked = λ l. refl; low = omega arith; high = search rules; some = omega arith }
rows And = record { plain = refl; pair = refl; picked = λ l. refl; low = omega arith; high = search rules; some = omega arith }
rows Plus = record { plain = refl; pair = refl; picked = λ l. refl; low = omega arith; high = search rules; some = omega arith }
rows Times = record { plain = refl; pair = refl; picked = λ l. refl; low = omega arith; high = search rules; some = omega arith }

by_sign : (b : Sign) (s : Bool) (t u : Tree s) (l : ℕ)
    → Parts (binary b) (λ o. after s u (after s t o) ++ binary b ∷ []) (written (at_level l (own b) (joined b (sign_in s t) (tokens_in s t) (sign_in s u) (tokens_in s u)))) (names_in s t ++ names_in s u) (row_of (code (binary b)) l)
by_sign b s t u l =
    rw ((rows b).picked l)
    (pairing (ltb (level_of b) l) (binary b) _ (joined b (sign_in s t) (tokens_in s t) (sign_in s u) (tokens_in s u)) (names_in s t ++ names_in s u) (code (binary b)) (rows b).low (rows b).pair
    record {
      parts = at s (left_of b) t ∷ bytes_of (spelling (binary b)) (rows b).high ++ right;
      order = λ o. ap (λ (l : List (Symbol Name)). l ++ binary b ∷ []) (bytes_order right (spelling (binary b)) (rows b).high (after s t o));
      shows =
          ap (λ (w : List ℕ). shown (at s (left_of b) t) ++ w) (bytes_shown right (spelling (binary b)) (rows b).high ∙ ap (λ (w : List ℕ). spelling (binary b) ++ w) (append-nil (shown (at s (right_of b) u))))
          ∙ ap₂ (λ (v w : List ℕ). v ++ (spelling (binary b) ++ w)) (in_position s t (left_of b)) (in_position s u (right_of b)) ∙ sym (written_between (binary b) _ _);
      some =
          λ n. omega (arith, (rows b).some, length-append (shown (at s (left_of b) t)) (collect shown (bytes_of (spelling (binary b)) (rows b).high ++ right)), ap length (bytes_shown right (spelling (binary b)) (rows b).high), length-append (spelling (binary b)) (collect shown right));
      names = ap (λ (ns : List Name). names_in s t ++ ns) (bytes_names right (spelling (binary b)) (rows b).high ∙ append-nil (names_in s u));
      jobs = ap (λ (w : List ℕ). level_of b ∷ w) (bytes_jobs right (spelling (binary b)) (rows b).high) ∙ sym (rows b).plain;
      low = omega (arith, (rows b).low);
    })
  where
    right : List Task
    right = at s (right_of b) u ∷ []

-- ---- the parts of an operand

pub record Opened (k : Task) (l : ℕ) : Type 0 where
  pub head : Symbol Name
  pub opened : Parts head (behind k) (shown k) (names_of k) (row_of (code head) l)

module _ (l : ℕ) (h : l ≤ tightest) where
  open_term : (t : Term Name) → Opened (operand true l h t) l
  unfolding table jobs_at row_of term_after term_tokens written
  open_term Term.zero = record { head = leaf Leaf.zero; opened = record { parts = byte 48 (omega arith) ∷ []; order = λ o. refl; shows = plainly l (leaf Leaf.zero ∷ []) h; some = λ n. omega arith; names = refl; jobs = refl; low = omega arith } }
  open_term Term.one = record { head = leaf Leaf.one; opened = record { parts = byte 49 (omega arith) ∷ []; order = λ o. refl; shows = plainly l (leaf Leaf.one ∷ []) h; some = λ n. omega arith; names = refl; jobs = refl; low = omega arith } }
  open_term (Term.name w) = record { head = leaf (Leaf.name w); opened = record { parts = name w ∷ []; order = λ o. refl; shows = plainly l (leaf (Leaf.name w) ∷ []) h; some = λ n. omega (arith, (n w here).some, length-append w []); names = refl; jobs = refl; low = omega arith } }
  open_term (Term.complement t) = record { head = minus; opened = by_prefix true t minus 45 (omega arith) refl l h 6 refl (omega arith) }
  open_term (Term.intersection t u) = record { head = binary Times; opened = by_sign Times true t u l }
  open_term (Term.union t u) = record { head = binary Plus; opened = by_sign Plus true t u l }

  open_formula : (f : Formula Name) → Opened (operand false l h f) l
  unfolding table jobs_at row_of formula_after formula_tokens atom_tokens written
  open_formula Form.truth = record { head = constant true; opened = record { parts = byte 84 (omega arith) ∷ []; order = λ o. refl; shows = plainly l (constant true ∷ []) h; some = λ n. omega arith; names = refl; jobs = refl; low = omega arith } }
  open_formula Form.falsity = record { head = constant false; opened = record { parts = byte 70 (omega arith) ∷ []; order = λ o. refl; shows = plainly l (constant false ∷ []) h; some = λ n. omega arith; names = refl; jobs = refl; low = omega arith } }
  open_formula (Form.atom (Atom.contact t u)) = record { head = relation contact; opened = by_relation (relation contact) (search rules) t u l h 14 refl (omega arith) }
  open_formula (Form.atom (Atom.part t u)) = record { head = relation part; opened = by_relation (relation part) (search rules) t u l h 15 refl (omega arith) }
  open_formula (Form.atom (Atom.empty t)) = record { head = is_zero; opened = by_zero t l h }
  open_formula (Form.negation f) = record { head = tilde; opened = by_prefix false f tilde 126 (omega arith) refl l h 7 refl (omega arith) }
  open_formula (Form.conjunction f g) = record { head = binary And; opened = by_sign And false f g l }
  open_formula (Form.disjunction f g) = record { head = binary Or; opened = by_sign Or false f g l }
  open_formula (Form.implication f g) = record { head = binary Implies; opened = by_sign Implies false f g l }
  open_formula (Form.equivalence f g) = record { head = binary Iff; opened = by_sign Iff false f g l }

pub open_task : (k : Task) → job k < 4 → Opened k (job k)
open_task (operand true l h t) q = open_term l h t
open_task (operand false l h f) q = open_formula l h f
open_task (byte b h) q = absurd (omega arith)
open_task (name w) q = absurd (omega arith)

-- ---- each task shows a byte

task_some : (k : Task) → AreNames (names_of k) → 1 ≤ length (shown k)
task_some (operand s l h t) n =
    let o = (open_task (operand s l h t) (omega arith)).opened in
    omega (arith, o.some (subst AreNames (sym o.names) n), ap length o.shows)
task_some (byte b h) n = omega arith
task_some (name w) n = (n w here).some

-- so there are no more tasks than bytes
pub tasks_few : (ks : List Task) → AreNames (collect names_of ks) → length ks ≤ length (collect shown ks)
tasks_few [] n = omega arith
tasks_few (k ∷ ks) n =
    omega (arith, task_some k (λ w i. n w (in_left (collect names_of ks) i)), tasks_few ks (λ w i. n w (in_right (names_of k) i)), length-append (shown k) (collect shown ks))
