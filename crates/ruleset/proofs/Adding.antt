-- What a rule is compiled to behind the rules before it is what all rules together are compiled to: no number of theirs changes
-- (Numbers.antt, and contact's Numbered), and their code is kept (Coding.antt). Assumes nothing.
use mathlib.Core.Bool.{Bool, true, false, cond}
use mathlib.Core.Path.{◌≡◌, refl, sym, ap, ◌∙◌, subst}
use mathlib.Core.List.{List, [], ◌∷◌, ◌++◌, map}
use Prim.Native.Nat.{ℕ, ◌+◌, ◌≤◌, ◌<◌}
use native.Mathlib.Omega.{arith}
use native.Mathlib.Numerals.{add-one}
use lib.Dec.{leb}
use lib.ListN.{length, take, set, length-append, length-map}
use lib.Seq.{sets, length-sets, take-suc-set}
use borrow.Author.Tests.{leb-true, le-leb}
use Rattle.lists.proofs.Padded.{pad_taken}
use Rattle.formula.specs.Formula.{Atom, Form, Formula, Name}
use Rattle.formula.specs.Atoms.{atoms_of}
use Rattle.formula.specs.Names.{formula_names, atom_names}
use Rattle.syntax.specs.Postfix.{postfix}
use Rattle.syntax.specs.Reader.{codes}
use Rattle.syntax.specs.Rule.{rule_of}
use Rattle.syntax.specs.declared.Rule.{Rule}
use Rattle.syntax.proofs.Claims.{length_codes, text_read}
use Rattle.lists.specs.Search.{In, collect}
use Rattle.lists.proofs.Search.{in_left, in_right, collect_last}
use Rattle.evalset.specs.Most.{most}
use Rattle.contact.specs.Numbering.{all_atoms, same_name, number_of, names_of, map_atom, map_form, different_atoms, atom_number, numbered_atoms, row_atoms}
use Rattle.contact.specs.Putting.{is_in}
use Rattle.contact.proofs.Distinct.{position_in, in_distinct}
use Rattle.contact.proofs.Naming.{name_alike, atoms_fewer}
use Rattle.contact.proofs.Numbered.{numbers_count, numbered_atoms_with, numbers_below}
use Rattle.names.specs.declared.Gathered.{Gathered}
use Rattle.names.specs.declared.NamesAnswer.{NamesAnswer}
use Rattle.names.specs.Gather.{arrays_of, known_of, gathered, Gathers}
use Rattle.names.proofs.Claims.{may_gather, known_from, enough_of, names_with, rule_enough, rule_gathered}
use Rattle.search.specs.declared.Chart.{Chart}
use Rattle.solver.specs.Coded.{part, PartIs, Coded}
use Rattle.kleene.specs.Code.{postfix as postfixCode}
use Rattle.compile.specs.Chart.{CompiledFrom}
use Rattle.compile.specs.Machine.{place_in}
use Rattle.compile.specs.Compiles.{atoms_after, code_after, Given, Asked, Result as Behind, Compiles}
use Rattle.compile.specs.declared.CompiledRule.{CompiledRule}
use Rattle.compile.proofs.Claims.{code_short, order_read, order_short}
use Rattle.spelling.specs.Kept.{Keeps}
use Rattle.ruleset.specs.declared.Known.{Known}
use Rattle.ruleset.specs.declared.Grown.{Grown}
use Rattle.ruleset.specs.declared.NoRoom.{NoRoom}
use Rattle.ruleset.specs.declared.Compiling.{Compiling}
use Rattle.ruleset.specs.Ends.{last_end}
use Rattle.ruleset.specs.Counted.{name_count}
use Rattle.ruleset.specs.Texts.{Fits, OneMore, room_for, room_answer, room_of, code_of, Grows, WithRule, CompiledRules, Another}
use Rattle.std.specs.Prelude.{Option, Some, IfSome, Result, Ok, Err, MatchResult, IsOk}
use Rattle.std.specs.Option.{is_some}
use Rattle.std.proofs.lemmas.Option.{MatchOption-at_some}
use Rattle.std.proofs.lemmas.Result.{MatchResult-at_ok}
use Rattle.ruleset.proofs.Numbers.{row_atoms_with, numbers_with}
use Rattle.ruleset.proofs.Coding.{last_few, coded_with, sets_first, sets_part}
use Rattle.ruleset.proofs.Counting.{count_few, names_counted}

-- ---- counts

pub atoms_count : (rules : List (Formula Name)) → length (row_atoms rules) ≡ length (different_atoms rules)
atoms_count rules = length-map (different_atoms rules) (map_atom (number_of rules))

-- the names of a chart are none of its atoms' matter
renumbered : (chart : Chart) (n : ℕ) (atoms : List (Atom ℕ)) → CompiledFrom chart atoms
    → CompiledFrom (record { names = n; atoms = chart.atoms; contact = chart.contact; xs = chart.xs; ys = chart.ys }) atoms
renumbered chart n atoms h = record { counted = h.counted; few = h.few; contacts = h.contacts; firsts = h.firsts; seconds = h.seconds }

-- ---- the rule behind the rules

module _ (rules : List (Formula Name)) (f : Formula Name) where
  abbrev all : List (Formula Name)
  all = rules ++ f ∷ []

  -- the rule with numbers for atoms
  abbrev last : Form ℕ
  last = map_form (atom_number all) f

  -- the rule's atoms and code are those of the rule put last
  atoms_after_lem : atoms_after (number_of all) f (row_atoms rules) ≡ row_atoms all
  atoms_after_lem = row_atoms_with rules f

  code_after_lem : code_after (number_of all) f (row_atoms rules) ≡ code_of rules f
  code_after_lem =
      ap (λ (l : List (Atom ℕ)). postfixCode (map_form (place_in l) (map_form (map_atom (number_of all)) f))) (row_atoms_with rules f)
      ∙ ap postfixCode (numbers_with rules f)

  last_below : (i : ℕ) → In i (atoms_of last) → i < length (different_atoms all)
  last_below i h =
      numbers_below all i
      (subst (In i) (sym (ap all_atoms (numbered_atoms_with rules f) ∙ collect_last atoms_of (numbered_atoms rules) last))
      (in_right (all_atoms (numbered_atoms rules)) h))

  -- the rule's names have their numbers
  number_small : length (names_of all) ≤ most → (x : Name) → In x (formula_names f) → number_of all x < most
  number_small few x i =
      let every = collect atom_names (all_atoms rules) ++ formula_names f in
      let there : is_in same_name (names_of all) x ≡ true =
      ap (λ (l : List Name). is_in same_name l x) (names_with rules f) ∙ in_distinct same_name name_alike every x (in_right (collect atom_names (all_atoms rules)) i) in
      omega (arith, position_in same_name (names_of all) x there)

-- ---- a rule that was read behind those that are known

module _ (text : List ℕ) (rule : Rule) (k : Known) (kept code : List ℕ) (from : ℕ) (rules : List (Formula Name)) (f : Formula Name)
    (m : OneMore text rule k kept code from rules f) where
  abbrev every : List (Formula Name)
  every = all rules f

  pub gather_asked : Gathers text rule k.names
  gather_asked = may_gather text rule k.names (names_of rules) m.read m.so_far.names_are m.so_far.fits.names_fit

  pub gathered_from : gathered text (known_of k.names) ≡ gathered text (names_of rules)
  gathered_from = ap (gathered text) (known_from k.names (names_of rules) m.so_far.names_are)

  -- a ninth name
  pub ninth : (g : Gathered) → g ≡ gathered text (known_of k.names) → (p : ℕ) → g.answer ≡ NamesAnswer.TooManyNames p
      → room_of text rules f ≡ Err (NoRoom.TooManyNames p)
  ninth g e p h = ap (λ (a : NamesAnswer). room_answer a (length (different_atoms every))) (ap (λ (x : Gathered). x.answer) (sym (e ∙ gathered_from)) ∙ h)

  order_is : take rule.len rule.order ≡ codes (postfix f)
  order_is = ap (λ (r : Rule). take r.len r.order) m.read ∙ order_read text f m.is_rule

  used_is : name_count (take rule.len rule.order) ≡ length (formula_names f)
  used_is = ap name_count order_is ∙ names_counted f

  module _ (whole : length rule.order ≡ 256) where
    order_few : length (postfix f) ≤ 256
    order_few = omega (arith, length_codes (postfix f), order_short text f m.is_rule (ap (λ (r : Rule). length r.order) (sym m.read) ∙ whole))

    pub rule_few : rule.len ≤ 256
    rule_few = omega (arith, ap (λ (r : Rule). r.len) (m.read ∙ text_read text f m.is_rule), order_few)

    tokens_few : length (take rule.len rule.order) ≤ 256
    tokens_few = omega (arith, ap length order_is, length_codes (postfix f), order_few)

    pub used_few : name_count (take rule.len rule.order) ≤ 256
    used_few = omega (arith, count_few (take rule.len rule.order), tokens_few)

    pub code_few : length (code_of rules f) ≤ 256
    code_few = omega (arith, ap length (code_after_lem rules f), code_short (number_of every) f (row_atoms rules), order_few)

    -- eight names are enough, and so many numbers are used
    module _ (g : Gathered) (gather-is : g ≡ gathered text (known_of k.names)) (enough : g.answer ≡ NamesAnswer.Enough) (used : ℕ)
        (counted : used ≡ name_count (take rule.len rule.order)) where
      abbrev order : List ℕ
      order = take rule.len rule.order

      abbrev numbers : List ℕ
      numbers = take used g.numbers

      enough_too : (gathered text (names_of rules)).answer ≡ NamesAnswer.Enough
      enough_too = ap (λ (h : Gathered). h.answer) (sym (gather-is ∙ gathered_from)) ∙ enough

      names_fit : length (names_of every) ≤ most
      names_fit = (rule_enough rules m.so_far.fits.names_fit text f m.is_rule).0 enough_too

      gathered_is : g ≡ enough_of (names_of every) (formula_names f)
      gathered_is = gather-is ∙ gathered_from ∙ rule_gathered rules m.so_far.fits.names_fit text f m.is_rule enough_too

      numbers_are : numbers ≡ map (number_of every) (formula_names f)
      numbers_are =
          let ns = map (number_of every) (formula_names f) in
          ap (λ (h : Gathered). take used h.numbers) gathered_is
          ∙ pad_taken 256 ns used (length-map (formula_names f) (number_of every) ∙ sym (counted ∙ used_is))

      given_is : Given order numbers k.atoms kept f (number_of every) (row_atoms rules)
      given_is =
          record {
            order_is = order_is;
            numbers_are = numbers_are;
            small = number_small rules f names_fit;
            compiled = m.so_far.compiled;
            keeps = m.so_far.keeps;
          }

      pub compile_asked : Asked order numbers k.atoms kept code from
      compile_asked =
          record {
            formula = f;
            numbering = number_of every;
            atoms = row_atoms rules;
            given = given_is;
            short = tokens_few;
            fits = omega (arith, tokens_few, m.fits);
          }

      module _ (r : Option CompiledRule) (keptOut out : List ℕ) (says : Compiles order numbers k.atoms kept code from r keptOut out) where
        said : (is_some r ≡ leb (length (atoms_after (number_of every) f (row_atoms rules))) 16)
            × IfSome r (λ made. Behind f (number_of every) (row_atoms rules) k.atoms code from made keptOut out)
        unfolding Compiles
        said = says f (number_of every) (row_atoms rules) given_is

        enough_is : is_some r ≡ leb (length (different_atoms every)) 16
        enough_is = said.0 ∙ ap (λ (n : ℕ). leb n 16) (ap length (atoms_after_lem rules f) ∙ atoms_count every)

        -- there is room, or it is the seventeenth different atom
        pub answer_now : room_of text rules f ≡ room_for (is_some r)
        answer_now = ap (λ (a : NamesAnswer). room_answer a (length (different_atoms every))) enough_too ∙ ap room_for (sym enough_is)

        module _ (made : CompiledRule) (yes : r ≡ Some made) where
          result : Behind f (number_of every) (row_atoms rules) k.atoms code from made keptOut out
          result = MatchOption-at_some _ _ made yes said.1

          fits_now : Fits every
          fits_now =
              record {
                rules_fit = omega (arith, length-append rules (f ∷ []), m.few);
                names_fit = names_fit;
                atoms_fit = leb-true _ _ (sym enough_is ∙ ap is_some yes);
              }

          count_now : g.names.count ≡ length (names_of every)
          unfolding arrays_of
          count_now = ap (λ (h : Gathered). h.names.count) gathered_is

          abbrev grown : Chart
          grown = record { names = g.names.count; atoms = made.atoms.chart.atoms; contact = made.atoms.chart.contact; xs = made.atoms.chart.xs; ys = made.atoms.chart.ys }

          pub grows_now : Grows text code from rules f
              (record { known = record { names = g.names; atoms = record { chart = grown; lens = made.atoms.lens }; count = k.count + 1 }; end = made.end }) keptOut out
          grows_now =
              record {
                known =
                    record {
                      fits = fits_now;
                      names_are = ap (λ (h : Gathered). h.names) gathered_is;
                      names_counted = count_now;
                      compiled = subst (CompiledFrom grown) (atoms_after_lem rules f) (renumbered made.atoms.chart g.names.count _ result.compiled);
                      keeps = subst (Keeps keptOut made.atoms.lens made.atoms.chart.contact) (atoms_after_lem rules f) result.keeps;
                      counted = omega (arith, m.so_far.counted, length-append rules (f ∷ []));
                    };
                ends = result.ends ∙ ap (λ (l : List ℕ). from + length l) (code_after_lem rules f);
                wrote = result.wrote ∙ ap (sets code from) (code_after_lem rules f);
              }

-- ---- a text behind those that are compiled

module _ (text : List ℕ) (c : Compiling) (kept code : List ℕ) (rules : List (Formula Name)) (f : Formula Name) (a : Another text c kept code rules f) where
  -- where the rule's code starts
  abbrev start : ℕ
  start = last_end 0 (take c.known.count c.ends)

  few_before : length rules < 16
  few_before = omega (arith, length-append rules (f ∷ []), a.room.rules_fit)

  pub place_free : c.known.count < 16
  place_free = omega (arith, few_before, a.so_far.known.counted)

  start_few : start + 256 ≤ length code
  start_few =
      omega (
        arith,
        a.code_fits,
        length-append rules (f ∷ []),
        numbers_count rules,
        last_few c.known.atoms.chart.atoms code 0 (take c.known.count c.ends) (numbered_atoms rules) a.so_far.coded,
      )

  module _ (rule : Rule) (read : rule ≡ rule_of text) (from : ℕ) (starts : from ≡ start) where
    pub one_more : OneMore text rule c.known kept code from rules f
    one_more =
        record {
          is_rule = a.is_rule;
          read = read;
          so_far = a.so_far.known;
          few = few_before;
          fits = omega (arith, starts, start_few);
        }

    has_room : room_of text rules f ≡ Ok tt
    has_room =
        ap (λ (n : NamesAnswer). room_answer n (length (different_atoms (all rules f)))) ((rule_enough rules a.so_far.known.fits.names_fit text f a.is_rule).1 a.room.names_fit)
        ∙ ap room_for (le-leb _ _ a.room.atoms_fit)

    -- so the answer is what grew
    pub room_found : (answer : Result Grown NoRoom) (keptOut out : List ℕ) → WithRule text rule c.known kept code from answer keptOut out → IsOk answer
    unfolding WithRule
    room_found (Ok r) keptOut out says = refl
    room_found (Err e) keptOut out says = absurd (let z : ◌≡◌ {A = Result Unit NoRoom} (Ok tt) (Err e) = sym has_room ∙ says rules f one_more in cc)

    module _ (whole : length rule.order ≡ 256) (answer : Result Grown NoRoom) (keptOut out : List ℕ) (says : WithRule text rule c.known kept code from answer keptOut out)
        (ends-long : length c.ends ≡ 16) (r : Grown) (grew : answer ≡ Ok r) where
      result_now : Grows text code from rules f r keptOut out
      unfolding WithRule
      result_now = (MatchResult-at_ok _ _ r grew (says rules f one_more)).1

      abbrev ws : List ℕ
      ws = code_of rules f

      ws_few : length ws ≤ 256
      ws_few = code_few text rule c.known kept code from rules f one_more whole

      ws_fits : from + length ws ≤ length code
      ws_fits = omega (arith, starts, start_few, ws_few)

      pub length_now : length out ≡ length code
      length_now = ap length result_now.wrote ∙ length-sets code from ws

      atoms_now : r.known.atoms.chart.atoms ≡ length (different_atoms (all rules f))
      atoms_now = result_now.known.compiled.counted ∙ atoms_count (all rules f)

      atoms_grow : c.known.atoms.chart.atoms ≤ r.known.atoms.chart.atoms
      atoms_grow =
          omega (
            arith,
            atoms_now,
            a.so_far.known.compiled.counted,
            atoms_count rules,
            atoms_fewer rules (all rules f) (λ g i. in_left (f ∷ []) i),
          )

      part_now : PartIs r.known.atoms.chart.atoms out from r.end (last rules f)
      part_now =
          record {
            ordered = omega (arith, result_now.ends);
            within = omega (arith, result_now.ends, ws_fits, ap length result_now.wrote, length-sets code from ws);
            is_code = ap (λ (l : List ℕ). part l from r.end) result_now.wrote
                ∙ ap (part (sets code from ws) from) result_now.ends ∙ sets_part from ws code ws_fits;
            short = ws_few;
            atoms_below = λ i h. omega (arith, last_below rules f i h, atoms_now);
          }

      abbrev ends : List ℕ
      ends = set c.ends c.known.count r.end

      one_counted : r.known.count ≡ c.known.count + 1
      one_counted = omega (arith, result_now.known.counted, a.so_far.known.counted, length-append rules (f ∷ []))

      ends_now : take r.known.count ends ≡ take c.known.count c.ends ++ r.end ∷ []
      ends_now =
          ap (λ (n : ℕ). take n ends) (one_counted ∙ add-one c.known.count)
          ∙ take-suc-set c.ends c.known.count r.end (omega (arith, place_free))

      coded_now : Coded r.known.atoms.chart.atoms out (take r.known.count ends) (numbered_atoms (all rules f))
      coded_now =
          subst (λ (es : List ℕ). Coded r.known.atoms.chart.atoms out es (numbered_atoms (all rules f))) (sym ends_now)
          (subst (Coded r.known.atoms.chart.atoms out (take c.known.count c.ends ++ r.end ∷ [])) (sym (numbered_atoms_with rules f))
          (coded_with c.known.atoms.chart.atoms r.known.atoms.chart.atoms code out atoms_grow length_now
          0 (take c.known.count c.ends) (numbered_atoms rules) r.end (last rules f) a.so_far.coded
          (ap (λ (n : ℕ). take n out) (sym starts) ∙ ap (take from) result_now.wrote ∙ sets_first from ws code ws_fits ∙ ap (λ (n : ℕ). take n code) starts) (subst (λ (n : ℕ). PartIs r.known.atoms.chart.atoms out n r.end (last rules f)) starts part_now)))

      pub compiled_now : CompiledRules (all rules f) (record { known = r.known; ends = ends }) keptOut out
      compiled_now =
          record {
            known = result_now.known;
            coded = coded_now;
          }
