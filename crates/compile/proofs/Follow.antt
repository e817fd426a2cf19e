-- The loop follows the machine: after i symbols its stack, its row, its arrays and its code are those of the machine's state, for
-- every formula, numbering and atoms that were given. Each turn is one symbol. Assumes nothing.
use Rattle.std.specs.Prelude.{None, Some}
use mathlib.Core.Bool.{true, false}
use mathlib.Core.Path.{◌≡◌, refl, sym, ap, ap₂, subst, ◌∙◌}
use mathlib.Core.List.{List, [], ◌∷◌, ◌++◌, map}
use mathlib.Core.Logic.{⊎_elim}
use Prim.Native.Nat.{ℕ, suc, ◌+◌, ◌-◌, ◌*◌, ◌≤◌, ◌<◌}
use native.Mathlib.Numerals.{add-one}
use native.Mathlib.Omega.{arith}
use lib.ListN.{length, get_or, take, drop, set, length-append, length-drop, length-set, take-append-drop, get_or-eq_default}
use lib.Seq.{sets, length-take-le, take-length, take-suc-set}
use borrow.Author.Tests.{lt-leb, le-leb}
use Rattle.lists.specs.Search.{In}
use Rattle.lists.proofs.Search.{none_in, collect_last, in_either, in_one, map_elim, placed}
use Rattle.lists.proofs.Lists.{take_next, map_skip, sets_more}
use Rattle.lists.proofs.Truth.{clash, cases, side}
use Rattle.formula.specs.Formula.{Term, Atom, Formula, Name}
use Rattle.formula.specs.Names.{formula_names}
use Rattle.syntax.specs.Symbol.{Leaf, leaf, opening}
use Rattle.syntax.specs.Postfix.{postfix, symbol_names, names_among}
use Rattle.syntax.specs.Machine.{Sym}
use Rattle.syntax.specs.Reader.{code}
use Rattle.syntax.proofs.Heads.{code_at}
use Rattle.syntax.proofs.Claims.{length_codes, order_names}
use Rattle.evalset.specs.declared.EvalSet.{EvalSet}
use Rattle.evalset.specs.Most.{most}
use Rattle.evalset.specs.Sets.{mem, mem_at}
use Rattle.spelling.specs.Symbols.{symbols_of}
use Rattle.compile.specs.declared.Atoms.{Atoms}
use Rattle.compile.specs.declared.CompiledRule.{CompiledRule}
use Rattle.compile.specs.Kinds.{taken_by, term_kind, atom_kind, names_by, set_by, symbol_by, sign_by}
use Rattle.compile.specs.Machine.{State, with_atom, with_sign, start, step, run}
use Rattle.compile.specs.Compiles.{atoms_after, code_after, Given, Asked, Compiles}
use Rattle.compile.specs.Signs.{Signing}
use Rattle.compile.specs.Stack.{Roomy}
use Rattle.compile.proofs.Orders.{run_last, run_append, formula_run, Bounds, run_bounds}
use Rattle.compile.proofs.Heights.{symbol_at, Finds, order_fine}
use Rattle.compile.proofs.Placing.{Holds, Shows, seventeen}
use Rattle.compile.proofs.Turns.{Turned, Written, Turns}
use Rattle.compile.proofs.Steps.{Stacked, spelled_all, Put, term_step, Made, atom_step, sign_step, names_by_lem, no_name, one_at_most, symbol_small}

-- ---- the names of an order

-- how many names stand before a place
abbrev passed : List Sym → ℕ → ℕ
passed xs i = length (names_among (take i xs))

passed_next : (xs : List Sym) (i : ℕ) → i < length xs → passed xs (i + 1) ≡ passed xs i + names_by (code (symbol_at xs i))
unfolding names_among
passed_next xs i l =
    ap (λ (p : List Sym). length (names_among p)) (take_next xs i opening l) ∙ ap length (collect_last symbol_names (take i xs) (symbol_at xs i))
    ∙ length-append (names_among (take i xs)) (symbol_names (symbol_at xs i)) ∙ ap (λ (k : ℕ). passed xs i + k) (names_by_lem (symbol_at xs i))

passed_few : (xs : List Sym) (i : ℕ) → i ≤ length xs → passed xs i ≤ i
unfolding names_among
passed_few xs ℕ.zero l = omega arith
passed_few xs (suc i) l =
    let z : suc i ≡ i + 1 = omega arith in
    omega (arith, ap (passed xs) z, passed_next xs i l, passed_few xs i (omega arith), one_at_most (code (symbol_at xs i)))

module _ (g : Name → ℕ) where
  name_here : (xs : List Sym) (i : ℕ) (y : Name) → i < length xs → symbol_at xs i ≡ leaf (Leaf.name y) → get_or (map g (names_among xs)) (passed xs i) 0 ≡ g y
  unfolding names_among
  name_here [] i y l e = absurd (omega arith)
  name_here (x ∷ xs) ℕ.zero y l e = ap (λ (z : Sym). get_or (map g (symbol_names z ++ names_among xs)) 0 0) e
  name_here (x ∷ xs) (suc i) y l e = map_skip g (symbol_names x) (names_among xs) (names_among (take i xs)) 0 ∙ name_here xs i y (omega arith) e

-- ---- the state

-- the machine after i symbols of the formula's order
abbrev reached : Formula Name → (Name → ℕ) → List (Atom ℕ) → ℕ → State
reached f g atoms i = run g (take i (postfix f)) (start atoms)

-- and in the end, with the formula's atoms and its code
abbrev last : Formula Name → (Name → ℕ) → List (Atom ℕ) → State
last f g atoms = record { terms = []; atoms = atoms_after g f atoms; code = code_after g f atoms }

module _ (f : Formula Name) (g : Name → ℕ) (atoms : List (Atom ℕ)) where
  reached_next : (i : ℕ) → i < length (postfix f) → reached f g atoms (i + 1) ≡ step g (symbol_at (postfix f) i) (reached f g atoms i)
  reached_next i l =
      ap (λ (p : List Sym). run g p (start atoms)) (take_next (postfix f) i opening l)
      ∙ run_last g (take i (postfix f)) (symbol_at (postfix f) i) (start atoms)

  reached_end : (i : ℕ) → i ≡ length (postfix f) → reached f g atoms i ≡ last f g atoms
  unfolding run
  reached_end i e = ap (λ (p : List Sym). run g p (start atoms)) (ap (λ (k : ℕ). take k (postfix f)) e ∙ take-length (postfix f)) ∙ formula_run g f [] (start atoms)

  reached_bounds : (i : ℕ) → i ≤ length (postfix f) → Bounds g i (start atoms) (reached f g atoms i)
  reached_bounds i l = subst (λ (k : ℕ). Bounds g k (start atoms) (reached f g atoms i)) (length-take-le i (postfix f) l) (run_bounds g (take i (postfix f)) (start atoms))

  -- the symbols left lead from there to the end
  reached_on : (i : ℕ) → Bounds g (length (drop i (postfix f))) (reached f g atoms i) (last f g atoms)
  reached_on i =
      subst (Bounds g (length (drop i (postfix f))) (reached f g atoms i))
      (sym (run_append g (take i (postfix f)) (drop i (postfix f)) (start atoms)) ∙ ap (λ (p : List Sym). run g p (start atoms)) (take-append-drop i (postfix f) ∙ sym (take-length (postfix f)))
      ∙ reached_end (length (postfix f)) refl)
      (run_bounds g (drop i (postfix f)) (reached f g atoms i))

-- the stack and the row are those of the terms
pub record Waits (stack : List EvalSet) (row : List ℕ) (height len : ℕ) (ts : List (Term ℕ)) : Type 0 where
  pub high : height ≡ length ts
  pub stacked : Stacked stack ts
  pub spells : take len row ≡ spelled_all ts

-- the rule, from the one before, is that of the atoms and the code
pub record Grown (before : Turned) (buf kept out : List ℕ) (rule : Turned) (s : State) : Type 0 where
  pub named : rule.atoms.chart.names ≡ before.atoms.chart.names
  pub holds : Holds rule.atoms kept s.atoms
  pub ends : rule.end ≡ before.end + length s.code
  pub wrote : out ≡ sets buf before.end s.code

-- the loop's values are those of the machine's state s, where so many names are passed
pub record Follows (before : Turned) (buf : List ℕ) (s : State) (count : ℕ) (kept out : List ℕ) (rule : Turned) (stack : List EvalSet)
    (row : List ℕ) (height len used : ℕ) : Type 0 where
  pub waits : Waits stack row height len s.terms
  pub counted : used ≡ count
  pub grown : Grown before buf kept out rule s

pub record Inv (order numbers : List ℕ) (before : Turned) (keeping buf kept out : List ℕ) (rule : Turned) (stack : List EvalSet)
    (row : List ℕ) (height len used i : ℕ) : Type 0 where
  pub within : i ≤ length order
  pub roomy : Roomy order stack
  pub wide : length row ≡ 256
  pub long : length out ≡ length buf
  pub behind : len ≤ i
  pub small : (v : ℕ) → In v (take len row) → v < 16
  pub going : rule.enough ≡ true
  pub follows : (f : Formula Name) (g : Name → ℕ) (atoms : List (Atom ℕ)) → Given order numbers before.atoms keeping f g atoms
      → Follows before buf (reached f g atoms i) (passed (postfix f) i) kept out rule stack row height len used

-- ---- before the first symbol

pub begins : (order numbers : List ℕ) (before : Turned) (keeping buf : List ℕ) (stack : List EvalSet) (row : List ℕ) → Roomy order stack
    → length row ≡ 256 → before.enough ≡ true → Inv order numbers before keeping buf keeping buf before stack row 0 0 0 0
unfolding run names_among
begins order numbers before keeping buf stack row w l b =
    record {
      within = omega arith;
      roomy = w;
      wide = l;
      long = refl;
      behind = omega arith;
      small = λ v j. none_in j;
      going = b;
      follows = λ f g atoms G.
          record {
            waits = record { high = refl; stacked = tt; spells = refl };
            counted = refl;
            grown = record { named = refl; holds = record { compiled = G.compiled; keeps = G.keeps }; ends = omega arith; wrote = refl };
          };
    }

-- ---- at a symbol

module _ {order numbers : List ℕ} {before : Atoms} {keeping : List ℕ} {f : Formula Name} {g : Name → ℕ} {atoms : List (Atom ℕ)}
    (G : Given order numbers before keeping f g atoms) where
  same_length : length (postfix f) ≡ length order
  same_length = sym (length_codes (postfix f)) ∙ ap length (sym G.order_is)

  kind_is : (i : ℕ) → i < length order → get_or order i 0 ≡ code (symbol_at (postfix f) i)
  kind_is i l = ap (λ (o : List ℕ). get_or o i 0) G.order_is ∙ code_at (postfix f) i (omega (arith, same_length))

  number_is : (i : ℕ) (y : Name) → i < length order → symbol_at (postfix f) i ≡ leaf (Leaf.name y) → get_or numbers (passed (postfix f) i) 0 ≡ g y
  number_is i y l e =
      ap (λ (o : List ℕ). get_or o (passed (postfix f) i) 0) (G.numbers_are ∙ ap (map g) (sym (order_names f)))
      ∙ name_here g (postfix f) i y (omega (arith, same_length)) e

  -- every number is small, and past the last stands 0
  number_small : (j : ℕ) → get_or numbers j 0 < most
  number_small j =
      ⊎_elim
      (λ l.
      let m = map_elim g (formula_names f) (subst (In (get_or numbers j 0)) G.numbers_are (placed 0 numbers j l)) in
      omega (arith, m.1, G.small m.0 m.2))
      (λ l. omega (arith, get_or-eq_default numbers 0 {n = j} l)) (side j (length numbers))

-- where no term waits
none_wait : (stack : List EvalSet) (row : List ℕ) (h : ℕ) (ts : List (Term ℕ)) → h ≡ 0 → length ts ≡ 0 → Waits stack row h 0 ts
none_wait stack row h [] e l = record { high = e; stacked = tt; spells = refl }
none_wait stack row h (t ∷ ts) e l = absurd (omega arith)

module _ {order numbers : List ℕ} {before : Turned} {keeping buf kept out : List ℕ} {rule : Turned} {stack : List EvalSet}
    {row : List ℕ} {height len used i : ℕ} (q : Asked order numbers before.atoms keeping buf before.end)
    (inv : Inv order numbers before keeping buf kept out rule stack row height len used i) where
  abbrev first_follows : Follows before buf (reached q.formula q.numbering q.atoms i) (passed (postfix q.formula) i) kept out rule stack row height len used
  first_follows = inv.follows q.formula q.numbering q.atoms q.given

  -- the stack is no higher than the symbols passed, and the code no longer
  low : height ≤ i
  low = omega (arith, first_follows.waits.high, (reached_bounds q.formula q.numbering q.atoms i (omega (arith, inv.within, same_length q.given))).high)

  -- nor higher than what the symbols left can take away
  lower : height ≤ 2 * (length order - i)
  lower =
      omega (
        arith,
        first_follows.waits.high,
        (reached_on q.formula q.numbering q.atoms i).low,
        length-drop i (postfix q.formula),
        same_length q.given,
      )

  -- so it has a place above its top, and one above that
  pub never_full : height + 1 < length stack
  never_full = omega (arith, low, lower, inv.roomy)

  pub few_names : used ≤ i
  few_names = omega (arith, first_follows.counted, passed_few (postfix q.formula) i (omega (arith, inv.within, same_length q.given)))

  pub small_number : (j : ℕ) → get_or numbers j 0 < most
  small_number j = number_small q.given j

  pub few_atoms : rule.atoms.chart.atoms ≤ 16
  few_atoms = omega (arith, first_follows.grown.holds.compiled.counted, first_follows.grown.holds.compiled.few)

  module _ (l : i < length order) where
    abbrev kind : ℕ
    kind = get_or order i 0

    pub enough : taken_by kind ≤ height
    enough =
        let e = kind_is q.given i l in
        let z : i < length (postfix q.formula) = omega (arith, same_length q.given) in
        omega (arith, ap taken_by e, (order_fine q.numbering (start q.atoms) q.formula refl i z).enough, first_follows.waits.high)

    -- outside of terms it takes all of them
    pub none_left : term_kind kind ≡ false → 0 ≡ height - taken_by kind
    none_left t =
        let e = kind_is q.given i l in
        let z : i < length (postfix q.formula) = omega (arith, same_length q.given) in
        omega (arith, ap taken_by e, (order_fine q.numbering (start q.atoms) q.formula refl i z).alone (ap term_kind (sym e) ∙ t), first_follows.waits.high)

    -- the code has a place for one number more
    pub fits : rule.end < length out
    fits =
        omega (
          arith,
          first_follows.grown.ends,
          (reached_bounds q.formula q.numbering q.atoms i (omega (arith, inv.within, same_length q.given))).long,
          q.fits,
          inv.long,
        )

    -- ---- a turn

    -- the next symbol, once the values are those of the state after it
    next : {kept' out' : List ℕ} {rule' : Turned} {stack' : List EvalSet} {row' : List ℕ} {height' len' used' : ℕ} → Roomy order stack' → length row' ≡ 256
        → length out' ≡ length buf → len' ≤ i + 1 → ((v : ℕ) → In v (take len' row') → v < 16) → rule'.enough ≡ true
        → ((f : Formula Name) (g : Name → ℕ) (atoms : List (Atom ℕ)) → Given order numbers before.atoms keeping f g atoms → kind ≡ code (symbol_at (postfix f) i)
        → Finds g (start atoms) (take i (postfix f)) (symbol_at (postfix f) i)
        → Follows before buf (reached f g atoms i) (passed (postfix f) i) kept out rule stack row height len used
        → Follows before buf (step g (symbol_at (postfix f) i) (reached f g atoms i)) (passed (postfix f) i + names_by kind) kept' out' rule' stack' row' height' len' used')
        → Inv order numbers before keeping buf kept' out' rule' stack' row' height' len' used' (i + 1)
    next {kept'} {out'} {rule'} {stack'} {row'} {height'} {len'} {used'} w x o n p b h =
        record {
          within = omega arith;
          roomy = w;
          wide = x;
          long = o;
          behind = n;
          small = p;
          going = b;
          follows = λ f g atoms G.
              let z : i < length (postfix f) = omega (arith, same_length G) in
              subst (λ (s : State). Follows before buf s (passed (postfix f) (i + 1)) kept' out' rule' stack' row' height' len' used')
              (sym (reached_next f g atoms i z))
              (subst (λ (k : ℕ). Follows before buf (step g (symbol_at (postfix f) i) (reached f g atoms i)) k kept' out' rule' stack' row' height' len' used')
              (sym (passed_next (postfix f) i z ∙ ap (λ (k : ℕ). passed (postfix f) i + names_by k) (sym (kind_is G i l))))
              (h f g atoms G (kind_is G i l) (order_fine g (start atoms) f refl i z) (inv.follows f g atoms G)));
        }

    module _ (h : ℕ) (d : h ≡ height - taken_by kind) where
      pub term_again : (r : EvalSet) (v number more : ℕ) → term_kind kind ≡ true → number ≡ get_or numbers used 0 → more ≡ names_by kind
          → mem r ≡ set_by kind number (mem_at stack h) (mem_at stack (h + 1)) → v ≡ symbol_by kind number
          → Inv order numbers before keeping buf kept out rule (set stack h r) (set row len v) (h + 1) (len + 1) (used + more) (i + 1)
      term_again r v number more term read passes made shown =
          next (omega (arith, length-set stack h r, inv.roomy)) (length-set row len v ∙ inv.wide) inv.long (omega (arith, inv.behind))
          (λ s j. ⊎_elim (inv.small s) (λ m. omega (arith, in_one m, shown, symbol_small kind number (omega (arith, small_number used)))) (in_either (take len row) (v ∷ []) (subst (In s) longer j)))
          inv.going
          (λ f g atoms G e found F.
          let S : State = reached f g atoms i in
          let x : Sym = symbol_at (postfix f) i in
          let P : Put (set stack h r) h (symbol_by (code x) number) S (step g x S)
          = term_step g stack r number height h S.atoms S.code (omega (arith, never_full)) x S.terms (ap term_kind (sym e) ∙ term) F.waits.high
          (subst (λ (j : ℕ). taken_by j ≤ height) e enough) (d ∙ ap (λ (j : ℕ). height - taken_by j) e) F.waits.stacked
          (λ y w. read ∙ ap (λ (j : ℕ). get_or numbers j 0) F.counted ∙ number_is G i y l w)
          (made ∙ ap (λ (j : ℕ). set_by j number (mem_at stack h) (mem_at stack (h + 1))) e) in
          record {
            waits = record {
              high = P.high;
              stacked = P.stacked;
              spells = longer ∙ ap₂ (λ (s : List ℕ) (j : ℕ). s ++ j ∷ []) F.waits.spells (shown ∙ ap (λ (j : ℕ). symbol_by j number) e) ∙ sym P.spells;
            };
            counted = ap₂ ◌+◌ F.counted passes;
            grown = record {
              named = F.grown.named;
              holds = subst (Holds rule.atoms kept) (sym P.same_atoms) F.grown.holds;
              ends = F.grown.ends ∙ ap (λ (c : List ℕ). before.end + length c) (sym P.same_code);
              wrote = F.grown.wrote ∙ ap (λ (c : List ℕ). sets buf before.end c) (sym P.same_code);
            };
          })
        where
          -- the row is longer by the symbol
          longer : take (len + 1) (set row len v) ≡ take len row ++ v ∷ []
          longer = rw add-one (take-suc-set row len v (omega (arith, inv.behind, inv.wide, q.short)))

      module _ (t : term_kind kind ≡ false) where
        -- the atom that the sign makes of the state
        pub record Makes (g : Name → ℕ) (x : Sym) (s : State) : Type 0 where
          pub atom : Atom ℕ
          pub made : step g x s ≡ with_atom atom [] s
          pub shows : Shows row len kind (mem_at stack h) (mem_at stack (h + 1)) atom

        module _ {f : Formula Name} {g : Name → ℕ} {atoms : List (Atom ℕ)} (G : Given order numbers before.atoms keeping f g atoms)
            (found : Finds g (start atoms) (take i (postfix f)) (symbol_at (postfix f) i))
            (F : Follows before buf (reached f g atoms i) (passed (postfix f) i) kept out rule stack row height len used) where
          -- the sign finds its terms alone, so nothing is left below them
          emptied : h ≡ 0
          emptied = omega (arith, d, ap taken_by (kind_is G i l), F.waits.high, found.alone (ap term_kind (sym (kind_is G i l)) ∙ t))

          makes : atom_kind kind ≡ true → Makes g (symbol_at (postfix f) i) (reached f g atoms i)
          makes a =
              let S : State = reached f g atoms i in
              let x : Sym = symbol_at (postfix f) i in
              let e : kind ≡ code x = kind_is G i l in
              let M : Made stack x S (step g x S)
              = atom_step g stack S.atoms S.code x S.terms (ap atom_kind (sym e) ∙ a) (found.alone (ap term_kind (sym e) ∙ t)) F.waits.stacked in
              let spelt : take len row ≡ symbols_of M.atom = F.waits.spells ∙ M.spells in
              record {
                atom = M.atom;
                made = M.made;
                shows = subst (λ (k : ℕ). Shows row len k (mem_at stack h) (mem_at stack (h + 1)) M.atom) (sym e)
                    (subst (λ (j : ℕ). Shows row len (code x) (mem_at stack j) (mem_at stack (j + 1)) M.atom) (sym emptied)
                    (record {
                      spells = record {
                        row_is = spelt;
                        short = omega (arith, inv.behind, inv.within, q.short);
                        within = omega (arith, inv.behind, inv.within, inv.wide, q.short);
                        sign = M.sign;
                        small = λ s j. inv.small s (subst (In s) (sym spelt) j);
                      };
                      first = M.first;
                      second = M.second;
                    }));
              }

        -- what `signed` asks
        pub signs_asked : Signing kept rule.atoms.lens rule.atoms.chart.contact rule.atoms.chart.atoms row len kind
        unfolding Signing
        signs_asked a =
            let z : i < length (postfix q.formula) = omega (arith, same_length q.given) in
            let M = makes q.given (order_fine q.numbering (start q.atoms) q.formula refl i z) first_follows a in
            let H = first_follows.grown.holds in
            (record { atoms = _; atom = M.atom; counted = H.compiled.counted; keeps = H.keeps; spells = M.shows.spells }, omega (arith, inv.behind, q.short))

        module _ {kept' out' : List ℕ} {rule' : Turned} (says : Turns rule kept out row len kind (mem_at stack h) (mem_at stack (h + 1)) rule' kept' out') where
          -- outside of terms no name is passed
          no_more : (n : ℕ) → used ≡ n → used ≡ n + names_by kind
          no_more n e = omega (arith, no_name kind t)

          -- the rule with the sign v
          grown_more : {s : State} {atoms : List (Atom ℕ)} (ts : List (Term ℕ)) (v : ℕ) → Grown before buf kept out rule s → Written rule rule' out v out'
              → Holds rule'.atoms kept' atoms → Grown before buf kept' out' rule' (record { terms = ts; atoms = atoms; code = s.code ++ v ∷ [] })
          grown_more {s} ts v G W H =
              record {
                named = W.names_kept ∙ G.named;
                holds = H;
                ends = omega (arith, W.ends, G.ends, length-append s.code (v ∷ []));
                wrote = W.wrote ∙ ap (λ (o : List ℕ). set o rule.end v) G.wrote ∙ sets_more s.code before.end v buf rule.end G.ends;
              }

          module _ {f : Formula Name} {g : Name → ℕ} {atoms : List (Atom ℕ)} (G : Given order numbers before.atoms keeping f g atoms)
              (found : Finds g (start atoms) (take i (postfix f)) (symbol_at (postfix f) i))
              (F : Follows before buf (reached f g atoms i) (passed (postfix f) i) kept out rule stack row height len used) where
            -- the state after the sign is followed
            abbrev After : Type 0
            After = Follows before buf (step g (symbol_at (postfix f) i) (reached f g atoms i)) (passed (postfix f) i + names_by kind) kept' out' rule' stack row h 0 used

            of_atom : rule'.enough ≡ true → atom_kind kind ≡ true → After
            of_atom b a =
                let S : State = reached f g atoms i in
                let M = makes G found F a in
                let W = says.atom_put a b S.atoms M.atom F.grown.holds M.shows in
                record {
                  waits = subst (λ (s : State). Waits stack row h 0 s.terms) (sym M.made) (none_wait stack row h [] (emptied G found F) refl);
                  counted = no_more (passed (postfix f) i) F.counted;
                  grown = subst (Grown before buf kept' out' rule') (sym M.made) (grown_more [] _ F.grown W.0 W.1);
                }

            of_sign : atom_kind kind ≡ false → After
            of_sign a =
                let S : State = reached f g atoms i in
                let x : Sym = symbol_at (postfix f) i in
                let e : kind ≡ code x = kind_is G i l in
                let T = sign_step g x S found.proper (ap term_kind (sym e) ∙ t) (ap atom_kind (sym e) ∙ a) in
                let W = says.sign_put a in
                record {
                  waits = subst (λ (s : State). Waits stack row h 0 s.terms) (sym T.0)
                      (none_wait stack row h S.terms (emptied G found F) (sym (found.alone (ap term_kind (sym e) ∙ t)) ∙ T.1));
                  counted = no_more (passed (postfix f) i) F.counted;
                  grown = subst (Grown before buf kept' out' rule') (sym (T.0 ∙ ap (λ (k : ℕ). with_sign (sign_by k) S) (sym e)))
                      (grown_more S.terms (sign_by kind) F.grown W.0 (W.1 S.atoms F.grown.holds));
                }

          pub sign_again : rule'.enough ≡ true → Inv order numbers before keeping buf kept' out' rule' stack row h 0 used (i + 1)
          sign_again b =
              next inv.roomy inv.wide (says.long ∙ inv.long) (omega arith) (λ s j. none_in j) b
              (λ f g atoms G e found F. cases (atom_kind kind) (of_atom G found F b) (of_sign G found F))

          -- where sixteen atoms are not enough
          pub refused : rule'.enough ≡ false → Compiles order numbers before.atoms keeping buf before.end None kept' out'
          unfolding Compiles
          refused b f g atoms G =
              let S : State = reached f g atoms i in
              let z : i < length (postfix f) = omega (arith, same_length G) in
              let F = inv.follows f g atoms G in
              let T = says.too_many b in
              let M = makes G (order_fine g (start atoms) f refl i z) F T.0 in
              let many : 16 < length (atoms_after g f atoms)
              = omega (
                arith,
                seventeen S.atoms M.atom F.grown.holds.compiled.few (T.1 S.atoms M.atom F.grown.holds M.shows),
                ap (λ (s : State). length s.atoms) (reached_next f g atoms i z ∙ M.made),
                (reached_on f g atoms (i + 1)).more,
              ) in
              (sym (lt-leb (length (atoms_after g f atoms)) 16 many), tt)

-- ---- past the last symbol

pub finished : {order numbers : List ℕ} {before : Turned} {keeping buf kept out : List ℕ} {rule : Turned} {stack : List EvalSet}
    {row : List ℕ} {height len used i : ℕ} → Inv order numbers before keeping buf kept out rule stack row height len used i → length order ≤ i
    → Compiles order numbers before.atoms keeping buf before.end (Some (record { atoms = rule.atoms; end = rule.end })) kept out
unfolding Compiles
finished {order} {numbers} {before} {keeping} {buf} {kept} {out} {rule} {stack} {row} {height} {len} {used} {i} inv past f g atoms G =
    let F = inv.follows f g atoms G in
    let z : reached f g atoms i ≡ last f g atoms = reached_end f g atoms i (omega (arith, inv.within, same_length G)) in
    let H : Holds rule.atoms kept (atoms_after g f atoms) = subst (λ (s : State). Holds rule.atoms kept s.atoms) z F.grown.holds in (
      sym (le-leb (length (atoms_after g f atoms)) 16 H.compiled.few),
      record {
        names_kept = F.grown.named;
        compiled = H.compiled;
        keeps = H.keeps;
        ends = F.grown.ends ∙ ap (λ (s : State). before.end + length s.code) z;
        wrote = F.grown.wrote ∙ ap (λ (s : State). sets buf before.end s.code) z;
      },
    )
