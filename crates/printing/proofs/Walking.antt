-- The walk goes on: the tasks that are left, left to right, show what is still to be made before what stands at the end of the bytes; their
-- numbers are on the stack, their order is what is left of the rule's, and their names are those of the tokens that are left. Each turn
-- does the last task. Assumes nothing.
use mathlib.Core.Path.{◌≡◌, refl, sym, ap, ap₂, subst, ◌∙◌}
use mathlib.Core.Bool.{false}
use mathlib.Core.Logic.{⊎_elim}
use mathlib.Core.List.{List, [], ◌∷◌, ◌++◌, map, append-nil, append_assoc, map-append}
use Prim.Native.Nat.{ℕ, suc, ◌+◌, ◌-◌, ◌≤◌, ◌<◌}
use native.Mathlib.Omega.{arith}
use lib.ListN.{length, take, drop, get_or, replicate, length-append, length-map, length-drop}
use lib.Seq.{sets, length-take-le, drop-length, take-take, take_at, get_or_at}
use Rattle.lists.specs.Search.{In, collect}
use Rattle.lists.proofs.Search.{in_left, in_right, in_take, collect_intro, collect_elim, collect_append, collect_last}
use Rattle.lists.proofs.Lists.{take_next, map_take}
use Rattle.lists.specs.Padded.{pad}
use Rattle.lists.proofs.Padded.{pad_taken}
use Rattle.formula.specs.Formula.{Formula, Name}
use Rattle.formula.specs.Names.{formula_names}
use Rattle.lexer.specs.Token.{Token, token_of, bytes_of}
use Rattle.lexer.specs.Cutting.{Cutting, tokens}
use Rattle.lexer.specs.Cutter.{cutting}
use Rattle.lexer.specs.Arrays.{code_of, tokens_of}
use Rattle.lexer.specs.declared.Kind.TheVariants as Kind
use Rattle.lexer.proofs.Claims as lexer
use Rattle.syntax.specs.Symbol.{Symbol, symbol_of, symbol_names}
use Rattle.syntax.specs.Postfix.{formula_after, names_among, postfix}
use Rattle.syntax.specs.Reader.{code, codes}
use Rattle.syntax.specs.Rule.{meaning_of, tokens_in}
use Rattle.syntax.specs.RuleText.{symbols_of, IsRule}
use Rattle.syntax.proofs.Names.{formula_order}
use Rattle.syntax.proofs.Claims as syntax
use Rattle.syntax.specs.declared.Rule.{Rule}
use Rattle.syntax.specs.declared.RuleAnswer.TheVariants as RuleAnswer
use Rattle.printing.specs.Tokens.{formula_sign, formula_tokens}
use Rattle.printing.specs.Text.{written, text_of}
use Rattle.printing.specs.Prints.{WasRead}
use Rattle.printing.specs.Jobs.{jobs_at, row_of}
use Rattle.printing.specs.Places.{names_to, formula_to, text_to, Ends, Filled}
use Rattle.printing.specs.declared.Place.{Place}
use Rattle.printing.proofs.Levels.{at_level, no_pair}
use Rattle.printing.proofs.Named.{AreNames, names_of_lem}
use Rattle.printing.proofs.Lengths.{rule_names}
use Rattle.printing.proofs.Tasks.{Task, operand, byte, name, job, shown, names_of, behind, all_behind, behind_append, Opened, open_task, tasks_few}
use Rattle.printing.proofs.Arrays.{Held, held_most, held_some, held_last, held_before, held_more, Made, made_room, made_more}

-- ---- what holds from turn to turn

-- the tokens of the rule text, in their arrays, and the symbols of the order that are not walked
pub record Read (s kinds starts lens : List ℕ) : Type 0 where
  pub cut_tokens : List Token
  pub cut : cutting s ≡ tokens cut_tokens
  pub kinds_are : kinds ≡ (tokens_of cut_tokens).kinds
  pub starts_are : starts ≡ (tokens_of cut_tokens).starts
  pub lens_are : lens ≡ (tokens_of cut_tokens).lens
  pub short : length s ≤ 256
  pub before : List (Symbol Name)

pub record Going (text s order kinds starts lens made : List ℕ) (k j : ℕ) (stack : List ℕ) (h e : ℕ) (ks : List Task) : Type 0 where
  pub read : Read s kinds starts lens
  pub stacked : Held stack h (map job ks)
  pub ordered : Held order k (map code (all_behind ks read.before))
  pub left : j ≤ length read.cut_tokens
  pub named : names_to s read.cut_tokens j ≡ names_among read.before ++ collect names_of ks
  pub names : AreNames (collect names_of ks)
  pub making : Made text made e (collect shown ks)

abbrev pub Goes : (text s order kinds starts lens made : List ℕ) (k j : ℕ) (stack : List ℕ) (h e : ℕ) → Type 0
Goes text s order kinds starts lens made k j stack h e = (ks : List Task) × Going text s order kinds starts lens made k j stack h e ks

-- ---- the last task

record Ending {A : Type 0} (ks : List A) : Type 0 where
  init : List A
  last : A
  split : ks ≡ init ++ last ∷ []

ending : {A : Type 0} (ks : List A) → 0 < length ks → Ending ks
ending [] h = absurd (omega arith)
ending (k ∷ []) h = record { init = []; last = k; split = refl }
ending (k ∷ l ∷ ks) h = let r = ending (l ∷ ks) (omega arith) in record { init = k ∷ r.init; last = r.last; split = ap (λ m. k ∷ m) r.split }

-- a task by its number: a byte shows itself, a name is one
by_byte : (k : Task) → 4 < job k → (shown k ≡ job k ∷ []) × ((o : List (Symbol Name)) → behind k o ≡ o) × (names_of k ≡ [])
by_byte (operand s l h t) q = absurd (omega arith)
by_byte (byte b h) q = (refl, λ o. refl, refl)
by_byte (name w) q = absurd (omega arith)

by_name : (k : Task) → job k ≡ 4 → (w : Name) × (k ≡ name w)
by_name (operand s l h t) q = absurd (omega arith)
by_name (byte b h) q = absurd (omega arith)
by_name (name w) q = (w, refl)

-- ---- the names of tokens

names_more : (s : List ℕ) (ts : List Token) (j : ℕ) (d : Token) → j < length ts → names_to s ts (j + 1) ≡ names_to s ts j ++ symbol_names (symbol_of (get_or ts j d).kind (bytes_of s (get_or ts j d)))
unfolding names_among
names_more s ts j d h =
    ap (λ (l : List Token). collect symbol_names (symbols_of s l)) (take_next ts j d h)
    ∙ ap (collect symbol_names) (map-append (λ (t : Token). symbol_of t.kind (bytes_of s t)) (take j ts) (get_or ts j d ∷ []))
    ∙ collect_last symbol_names (symbols_of s (take j ts)) (symbol_of (get_or ts j d).kind (bytes_of s (get_or ts j d)))

some_token : (s : List ℕ) (ts : List Token) (j : ℕ) (ws : List Name) (w : Name) → names_to s ts j ≡ ws ++ w ∷ [] → 0 < j
unfolding names_among
some_token s ts ℕ.zero ws w e = absurd (omega (arith, ap length e, length-append ws (w ∷ [])))
some_token s ts (suc j) ws w e = omega arith

-- two lists with one more each
same_last : (a b : List Name) (x y : Name) → a ++ x ∷ [] ≡ b ++ y ∷ [] → (a ≡ b) × (x ≡ y)
same_last a b x y e =
    let n : length b ≡ length a = omega (arith, ap length e, length-append a (x ∷ []), length-append b (y ∷ [])) in (
      sym (take_at a (x ∷ []) (length a) refl) ∙ ap (take (length a)) e ∙ take_at b (y ∷ []) (length a) n,
      sym (get_or_at a x [] [] (length a) refl) ∙ ap (λ (l : List Name). get_or l (length a) []) e ∙ get_or_at b y [] [] (length a) n,
    )

abbrev nowhere : Token
nowhere = token_of Kind.Name 0 0

-- ---- a turn

module _ {text s order kinds starts lens made : List ℕ} {k j : ℕ} {stack : List ℕ} {h e : ℕ} (g : Goes text s order kinds starts lens made k j stack h e) where
  pub few_left : (h ≤ 256) × (k ≤ 256) × (j ≤ 256) × (e ≤ 256)
  few_left = (
    held_most stack h _ g.1.stacked,
    held_most order k _ g.1.ordered,
    omega (arith, lexer.at_most s g.1.read.cut_tokens g.1.read.cut, g.1.left, g.1.read.short),
    g.1.making.within,
  )

  module _ (p : 0 < h) where
    top : Ending g.0
    top = ending g.0 (omega (arith, g.1.stacked.count, length-map g.0 job))

    abbrev init : List Task
    init = top.init

    abbrev last : Task
    last = top.last

    -- the symbols that are not walked, and their names
    abbrev before : List (Symbol Name)
    before = g.1.read.before

    abbrev unwalked : List Name
    unwalked = names_among before

    going : Going text s order kinds starts lens made k j stack h e (init ++ last ∷ [])
    going = subst (Going text s order kinds starts lens made k j stack h e) top.split g.1

    going_order : Held order k (map code (all_behind (init ++ last ∷ []) before))
    going_order = subst (λ (ks : List Task). Held order k (map code (all_behind ks before))) top.split g.1.ordered

    -- the names of the last task stand last
    going_names : names_to s g.1.read.cut_tokens j ≡ unwalked ++ collect names_of init ++ names_of last
    going_names = g.1.named ∙ ap (λ (ks : List Task). unwalked ++ collect names_of ks) top.split ∙ ap (λ (l : List Name). unwalked ++ l) (collect_last names_of init last) ∙ sym (append_assoc unwalked (collect names_of init) (names_of last))

    on_stack : Held stack h (map job init ++ job last ∷ [])
    on_stack = subst (Held stack h) (map-append job init (last ∷ [])) going.stacked

    here : get_or stack (h - 1) 0 ≡ job last
    here = held_last stack h (map job init) (job last) on_stack

    names_init : AreNames (collect names_of init)
    names_init w i = going.names w (subst (λ (l : List Name). In w l) (sym (collect_last names_of init last)) (in_left (names_of last) i))

    -- the last task is done: the bytes ws that it shows are put, and the names of the first i tokens are left
    done : ((o : List (Symbol Name)) → behind last o ≡ o) → (i : ℕ) → i ≤ length g.1.read.cut_tokens → names_to s g.1.read.cut_tokens i ≡ unwalked ++ collect names_of init
        → (ws : List ℕ) → ws ≡ shown last → Goes text s order kinds starts lens (sets made (e - length ws) ws) k i stack (h - 1) (e - length ws)
    done o i l n ws w = (
      init,
      record {
        read = g.1.read;
        stacked = held_before stack h (map job init) (job last) on_stack;
        ordered = subst (λ (l : List (Symbol Name)). Held order k (map code l)) (behind_append init (last ∷ []) before ∙ o (all_behind init before)) going_order;
        left = l;
        named = n;
        names = names_init;
        making = made_more text made e (collect shown init) ws (subst (Made text made e) (collect_last shown init last ∙ ap (λ (l : List ℕ). collect shown init ++ l) (sym w)) going.making);
      },
    )

    -- there is room for what it shows
    shown_fits : length (shown last) ≤ e
    shown_fits = omega (arith, made_room text made e _ going.making, ap length (collect_last shown init last), length-append (collect shown init) (shown last))

    -- ---- an operand: its parts take its place
    module _ (q : get_or stack (h - 1) 0 < 4) where
      opening : Opened last (job last)
      opening = open_task last (omega (arith, here))

      abbrev next : List Task
      next = init ++ opening.opened.parts

      next_shown : collect shown (init ++ last ∷ []) ≡ collect shown next
      next_shown = collect_last shown init last ∙ sym (collect_append shown init opening.opened.parts ∙ ap (λ (l : List ℕ). collect shown init ++ l) opening.opened.shows)

      next_names : collect names_of (init ++ last ∷ []) ≡ collect names_of next
      next_names = collect_last names_of init last ∙ sym (collect_append names_of init opening.opened.parts ∙ ap (λ (l : List Name). collect names_of init ++ l) opening.opened.names)

      next_order : all_behind (init ++ last ∷ []) before ≡ all_behind next before ++ opening.head ∷ []
      next_order =
          behind_append init (last ∷ []) before ∙ sym (opening.opened.order (all_behind init before))
          ∙ ap (λ (l : List (Symbol Name)). l ++ opening.head ∷ []) (sym (behind_append init opening.opened.parts before))

      in_order : Held order k (map code (all_behind next before) ++ code opening.head ∷ [])
      in_order = subst (Held order k) (ap (map code) next_order ∙ map-append code (all_behind next before) (opening.head ∷ [])) going_order

      pub order_some : 0 < k
      order_some = omega (arith, held_some order k (map code (all_behind next before)) (code opening.head) in_order)

      module _ (r : ℕ) (w : r ≡ row_of (get_or order (k - 1) 0) (get_or stack (h - 1) 0)) where
        row_is : r ≡ row_of (code opening.head) (job last)
        row_is = w ∙ ap₂ row_of (held_last order k (map code (all_behind next before)) (code opening.head) in_order) here

        jobs_are : jobs_at r ≡ map job opening.opened.parts
        jobs_are = ap jobs_at row_is ∙ sym opening.opened.jobs

        pub row_low : r < 25
        row_low = omega (arith, row_is, opening.opened.low)

        names_next : AreNames (collect names_of next)
        names_next = subst AreNames next_names going.names

        -- each task shows a byte, and there are at most 256
        pub jobs_fit : h - 1 + length (jobs_at r) ≤ length stack
        jobs_fit =
            omega (arith, held_some stack h (map job init) (job last) on_stack, length-map init job, ap length jobs_are, length-map opening.opened.parts job, length-append init opening.opened.parts, tasks_few next names_next, ap length next_shown, made_room text made e _ going.making, going.making.within, on_stack.room)

        pub goes_operand : (out : List ℕ) → out ≡ sets stack (h - 1) (jobs_at r) → (n : ℕ) → n ≡ h - 1 + length (jobs_at r) → Goes text s order kinds starts lens made (k - 1) j out n e
        goes_operand out o n m = (
          next,
          record {
            read = g.1.read;
            stacked =
                subst (λ (l : List ℕ). Held l n (map job next)) (sym o)
                (subst (λ (i : ℕ). Held (sets stack (h - 1) (jobs_at r)) i (map job next)) (sym m)
                (subst (Held (sets stack (h - 1) (jobs_at r)) (h - 1 + length (jobs_at r))) (ap (λ (l : List ℕ). map job init ++ l) jobs_are ∙ sym (map-append job init opening.opened.parts))
                (held_more stack (h - 1) (map job init) (jobs_at r) (held_before stack h (map job init) (job last) on_stack) jobs_fit)));
            ordered = held_before order k (map code (all_behind next before)) (code opening.head) in_order;
            left = g.1.left;
            named = g.1.named ∙ ap (λ (ks : List Task). unwalked ++ collect names_of ks) top.split ∙ ap (λ (l : List Name). unwalked ++ l) next_names;
            names = names_next;
            making = subst (Made text made e) next_shown going.making;
          },
        )

    -- ---- a byte
    module _ (a : 4 ≤ get_or stack (h - 1) 0) (b : get_or stack (h - 1) 0 ≡ 4 → ⊥) where
      is_byte : (shown last ≡ job last ∷ []) × ((o : List (Symbol Name)) → behind last o ≡ o) × (names_of last ≡ [])
      is_byte = by_byte last (above (job last) (omega (arith, here)) (λ f. b (here ∙ f)))
        where
          above : (n : ℕ) → 4 ≤ n → (n ≡ 4 → ⊥) → 4 < n
          above n l m = omega arith

      pub byte_fits : 0 < e
      byte_fits = omega (arith, shown_fits, ap length is_byte.0)

      pub goes_byte : Goes text s order kinds starts lens (sets made (e - 1) (get_or stack (h - 1) 0 ∷ [])) k j stack (h - 1) (e - 1)
      goes_byte =
          done is_byte.1 j g.1.left
          (going_names ∙ ap (λ (l : List Name). unwalked ++ collect names_of init ++ l) is_byte.2 ∙ append-nil (unwalked ++ collect names_of init))
          (get_or stack (h - 1) 0 ∷ []) (ap (λ (n : ℕ). n ∷ []) here ∙ sym is_byte.0)

    -- ---- a name: the last that is left
    module _ (a : get_or stack (h - 1) 0 ≡ 4) where
      is_name : (w : Name) × (last ≡ name w)
      is_name = by_name last (sym here ∙ a)

      abbrev ts : List Token
      ts = g.1.read.cut_tokens

      last_name : names_to s ts j ≡ unwalked ++ collect names_of init ++ is_name.0 ∷ []
      last_name = going_names ∙ ap (λ (t : Task). unwalked ++ collect names_of init ++ names_of t) is_name.1

      pub name_left : 0 < j
      name_left = some_token s ts j (unwalked ++ collect names_of init) is_name.0 last_name

      inside : j - 1 < length ts
      inside = omega (arith, name_left, g.1.left)

      abbrev this : Token
      this = get_or ts (j - 1) nowhere

      names_this : names_to s ts j ≡ names_to s ts (j - 1) ++ symbol_names (symbol_of this.kind (bytes_of s this))
      names_this = let i : j ≡ j - 1 + 1 = omega (arith, name_left) in ap (names_to s ts) i ∙ names_more s ts (j - 1) nowhere inside

      kind_is : get_or kinds (j - 1) 0 ≡ code_of this.kind
      kind_is = ap (λ (l : List ℕ). get_or l (j - 1) 0) g.1.read.kinds_are ∙ lexer.kind_at_lem ts (j - 1) nowhere inside

      -- a token that is no name is passed over
      pub goes_past : (get_or kinds (j - 1) 0 ≡ 18 → ⊥) → Goes text s order kinds starts lens made k (j - 1) stack (h - 1 + 1) e
      goes_past n =
          let i : h ≡ h - 1 + 1 = omega (arith, p) in
          let none : symbol_names (symbol_of this.kind (bytes_of s this)) ≡ [] = ⊎_elim (λ m. absurd (n (kind_is ∙ ap code_of m.0))) (λ m. m.1) (names_of_lem this.kind (bytes_of s this)) in (
            g.0,
            record {
              read = g.1.read;
              stacked = subst (λ (i : ℕ). Held stack i (map job g.0)) i g.1.stacked;
              ordered = g.1.ordered;
              left = omega (arith, g.1.left);
              named = sym (names_this ∙ ap (λ (l : List Name). names_to s ts (j - 1) ++ l) none ∙ append-nil (names_to s ts (j - 1))) ∙ g.1.named;
              names = g.1.names;
              making = g.1.making;
            },
          )

      module _ (n : get_or kinds (j - 1) 0 ≡ 18) (start len : ℕ) (f : start ≡ get_or starts (j - 1) 0) (l : len ≡ get_or lens (j - 1) 0) where
        start_is : start ≡ this.start
        start_is = f ∙ ap (λ (l : List ℕ). get_or l (j - 1) 0) g.1.read.starts_are ∙ lexer.start_at ts (j - 1) nowhere inside

        len_is : len ≡ this.len
        len_is = l ∙ ap (λ (l : List ℕ). get_or l (j - 1) 0) g.1.read.lens_are ∙ lexer.len_at ts (j - 1) nowhere inside

        pub name_lies : start + len ≤ length s
        name_lies = omega (arith, start_is, len_is, (lexer.token_in s ts g.1.read.cut (j - 1) nowhere inside).inside)

        same_names : (names_to s ts (j - 1) ≡ unwalked ++ collect names_of init) × (bytes_of s this ≡ is_name.0)
        same_names =
            let own : symbol_names (symbol_of this.kind (bytes_of s this)) ≡ bytes_of s this ∷ [] = ⊎_elim (λ m. m.1) (λ m. absurd (m.0 (sym kind_is ∙ n))) (names_of_lem this.kind (bytes_of s this)) in
            same_last (names_to s ts (j - 1)) (unwalked ++ collect names_of init) (bytes_of s this) is_name.0 (sym (names_this ∙ ap (λ (l : List Name). names_to s ts (j - 1) ++ l) own) ∙ last_name)

        -- the bytes that are lent
        module _ (ws : List ℕ) (w : ws ≡ take (start + len - start) (drop start s)) where
          name_is : ws ≡ shown last
          name_is =
              let m : start + len - start ≡ this.len = omega (arith, len_is) in
              w ∙ ap₂ (λ (a b : ℕ). take a (drop b s)) m start_is ∙ same_names.1 ∙ sym (ap shown is_name.1)

          pub name_long : len ≡ length ws
          name_long = omega (arith, ap length w, length-take-le (start + len - start) (drop start s) (omega (arith, name_lies, length-drop start s)))

          pub name_fits : len ≤ e
          name_fits = omega (arith, name_long, ap length name_is, shown_fits)

          pub goes_name : (out : List ℕ) → out ≡ sets made (e - len) ws → Goes text s order kinds starts lens out k (j - 1) stack (h - 1) (e - len)
          goes_name out o =
              subst (λ (m : List ℕ). Goes text s order kinds starts lens m k (j - 1) stack (h - 1) (e - len)) (sym o)
              (subst (λ (n : ℕ). Goes text s order kinds starts lens (sets made (e - n) ws) k (j - 1) stack (h - 1) (e - n)) (sym name_long)
              (done (λ o. ap (λ (t : Task). behind t o) is_name.1) (j - 1) (omega (arith, inside)) same_names.0 ws name_is))

-- ---- the end, and the start

pub goes_end : {text s order kinds starts lens made : List ℕ} {k j : ℕ} {stack : List ℕ} {h e : ℕ} → Goes text s order kinds starts lens made k j stack h e → h ≡ 0 → Filled text made e
goes_end {text} {made = made} {e = e} (ks, g) z = go ks (omega (arith, g.stacked.count, length-map ks job)) g.making
  where
    go : (ks : List Task) → length ks ≡ 0 → Made text made e (collect shown ks) → Filled text made e
    go [] n m = record { within = m.within; whole = m.room; text = m.whole }
    go (k ∷ ks) n m = absurd (omega arith)

-- the first kinds of symbols in an array
pub kinds_first : (xs : List (Symbol Name)) (i : ℕ) → i ≤ length xs → take i (pad 256 (map code xs)) ≡ map code (take i xs)
kinds_first xs i h = sym (take-take i (length xs) (pad 256 (map code xs)) h) ∙ ap (take i) (pad_taken 256 (map code xs) (length xs) (length-map xs code)) ∙ sym (map_take code i xs)

module _ (s : List ℕ) (rule : Rule) (w : WasRead s rule) where
  pub is_rule : IsRule s (meaning_of s)
  is_rule = syntax.is_rule s (sym (ap (λ (r : Rule). r.answer) w.read) ∙ w.formula)

  pub read_as : rule ≡ record { answer = RuleAnswer.Formula; tokens = tokens_of is_rule.cut_tokens; order = pad 256 (codes (postfix (meaning_of s))); len = length (postfix (meaning_of s)) }
  read_as = w.read ∙ syntax.text_read s (meaning_of s) is_rule

  pub cut_as : cutting s ≡ tokens is_rule.cut_tokens
  cut_as = sym (lexer.meant_is_computed s (tokens is_rule.cut_tokens) is_rule.cut)

  -- the names of all tokens are names
  all_named : AreNames (names_among (symbols_of s is_rule.cut_tokens))
  all_named = subst AreNames (sym (syntax.token_names (symbols_of s is_rule.cut_tokens) (meaning_of s) is_rule.derived)) (rule_names s (meaning_of s) is_rule)

  module _ (p : Place) (z : Ends s p) where
    abbrev f : Formula Name
    f = formula_to s p.order

    -- the names of the tokens up to the place are those before the formula, and its own
    named_to : names_to s is_rule.cut_tokens p.tokens ≡ names_among z.before ++ formula_names f
    named_to = ap (λ (c : Cutting). names_to s (tokens_in c) p.tokens) (sym cut_as) ∙ z.names ∙ ap names_among z.order ∙ formula_order f z.before

    own_named : AreNames (formula_names f)
    unfolding names_among
    own_named w i =
        let e = collect_elim symbol_names (take p.tokens (symbols_of s is_rule.cut_tokens))
        (subst (λ (l : List (Symbol Name)). In w (collect symbol_names l)) (map_take _ p.tokens is_rule.cut_tokens) (subst (λ (l : List Name). In w l) (sym named_to) (in_right (names_among z.before) i))) in
        all_named w (collect_intro symbol_names (in_take p.tokens (symbols_of s is_rule.cut_tokens) e.1) e.2)

    in_array : take p.order rule.order ≡ map code (formula_after f z.before)
    unfolding codes
    in_array =
        ap (λ (r : Rule). take p.order r.order) read_as ∙ kinds_first (postfix (meaning_of s)) p.order z.within ∙ ap (map code) z.order

    pub goes_first : (made : List ℕ) → length made ≡ 256 → (stack : List ℕ) → stack ≡ replicate 256 0 → length rule.order ≡ 256
        → Goes (text_to s p.order) s rule.order rule.tokens.kinds rule.tokens.starts rule.tokens.lens made p.order p.tokens stack 1 256
    unfolding text_to text_of tokens_of
    goes_first made b stack e c =
        let names : collect names_of (operand false 0 (omega arith) f ∷ []) ≡ formula_names f = append-nil (formula_names f) in (
          operand false 0 (omega arith) f ∷ [],
          record {
            read =
                record {
                  cut_tokens = is_rule.cut_tokens;
                  cut = cut_as;
                  kinds_are = ap (λ (r : Rule). r.tokens.kinds) read_as;
                  starts_are = ap (λ (r : Rule). r.tokens.starts) read_as;
                  lens_are = ap (λ (r : Rule). r.tokens.lens) read_as;
                  short = is_rule.short;
                  before = z.before;
                };
            stacked = record { first = ap (take 1) e; count = refl; room = ap length e };
            ordered =
                record {
                  first = in_array;
                  count = omega (arith, ap length z.order, length-take-le p.order (postfix (meaning_of s)) z.within, length-map (formula_after f z.before) code);
                  room = c;
                };
            left = omega (arith, z.tokens, ap (λ (c : Cutting). length (tokens_in c)) cut_as);
            named = named_to ∙ ap (λ (l : List Name). names_among z.before ++ l) (sym names);
            names = subst AreNames (sym names) own_named;
            making =
                record {
                  whole =
                      ap₂ ◌++◌ (append-nil (written (at_level 0 (formula_sign f) (formula_tokens f))) ∙ ap written (no_pair 0 (formula_sign f) (formula_tokens f) (omega arith))) (ap (λ (n : ℕ). drop n made) (sym b) ∙ drop-length made)
                      ∙ append-nil (written (formula_tokens f));
                  fits = z.fits;
                  within = omega arith;
                  room = b;
                };
          },
        )
