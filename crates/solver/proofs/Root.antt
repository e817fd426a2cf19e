-- The search from the root: arrays of zeros have room for what is seen and for the words of all pairs, and what is found is the first good row
-- under the row of no atoms. Assumes nothing.
use mathlib.Core.Bool.{Bool, false}
use mathlib.Core.Path.{◌≡◌, sym, ap, ap₂, ◌∙◌, subst}
use mathlib.Core.List.{List, []}
use Prim.Native.Nat.{ℕ, zero, suc, ◌+◌, ◌-◌, ◌*◌, ◌/◌, ◌%◌, ◌^◌, ◌≤◌, min}
use native.Mathlib.Omega.{arith}
use lib.ListN.{length, replicate, take, length-replicate}
use lib.Pow.{pow_mono, pow_pos}
use Rattle.formula.specs.Atoms.{is_contact}
use Rattle.formula.specs.Formula.{Atom}
use Rattle.std.specs.Prelude.{Option}
use Rattle.lists.specs.Search.{first}
use Rattle.lists.proofs.Lists.{repeated_at}
use Rattle.evalset.specs.Bit.{bit}
use Rattle.evalset.specs.Sets.{room, mem_at}
use Rattle.evalset.specs.Most.{most}
use Rattle.evalset.proofs.Bits.{bit_none}
use Rattle.contact.specs.Check.{good}
use Rattle.contact.specs.Tableau.{under}
use Rattle.search.specs.declared.Asked.{Asked}
use Rattle.search.specs.declared.Chart.{Chart}
use Rattle.search.specs.Asked.{question_of}
use Rattle.search.specs.Rows.{row_bits}
use Rattle.search.specs.Compiled.{limit, AtomIs, atom_at, contact_at, Compiled}
use Rattle.pairing.specs.Words.{Spelt, Contacts, Serving}
use Rattle.pairing.specs.Listed.{pair_count, Listable, ListSays}
use Rattle.solver.specs.declared.Cut.{Cut}
use Rattle.solver.specs.Coded.{part, Coded}
use Rattle.solver.specs.Tree.{answer_for, CutOf, Given, Finds, evaluation_count, Unseen, Roomy, SearchSays}

-- ---- the memory

-- nothing was seen where all words are zero
pub unseen : (chart : Chart) (n : ℕ) → 2 ^ chart.atoms ≤ 64 * n → Unseen chart (replicate n 0)
unseen chart n h =
    record {
      none = λ k. repeated_at (λ (x : ℕ). bit x (k % 64) ≡ false) (bit_none (k % 64)) (bit_none (k % 64)) n (k / 64);
      bits = omega (arith, length-replicate {A = ℕ} n 0);
    }

pair_mono : (m n : ℕ) → m ≤ n → pair_count m ≤ pair_count n
unfolding pair_count
pair_mono zero n l = omega arith
pair_mono (suc m) zero l = absurd (omega arith)
pair_mono (suc m) (suc n) l = omega (arith, pair_mono m n (omega arith))

-- the pairs of the evaluations of so many names
pub pairs_few : (names n : ℕ) → min names most ≤ n → pair_count (evaluation_count names) ≤ pair_count (2 ^ n)
pairs_few names n l = pair_mono (2 ^ min names most) (2 ^ n) (pow_mono {i = min names most} {j = n} l)

pub listable : (chart : Chart) (contacts top : ℕ) (seen list : List ℕ) → chart.atoms ≤ limit → Spelt chart.atoms (contact_at chart) contacts
    → top ≡ evaluation_count chart.names → Roomy chart seen list → Listable chart contacts top seen list
unfolding room
listable chart contacts top seen list few spelt z h =
    record {
      few = few;
      contacts_are = spelt;
      some = omega (arith, z, pow_pos (min chart.names most));
      fits = omega (arith, z, pow_mono {i = min chart.names most} {j = most} (omega arith));
      top_is = λ l. let y : min chart.names most ≡ chart.names = omega arith in z ∙ ap (λ (x : ℕ). 2 ^ x) y;
      none = h.unseen.none;
      bits = h.unseen.bits;
      places = subst (λ (x : ℕ). pair_count x ≤ length list) (sym z) h.places;
    }

-- ---- the contacts of a compiled chart

contact_is : (names : ℕ) (c : Bool) (x y : ℕ → Bool) (atom : Atom ℕ) → AtomIs names c x y atom → c ≡ is_contact atom
contact_is names c x y (Atom.contact s t) h = h.0
contact_is names c x y (Atom.part s t) h = h.0
contact_is names c x y (Atom.empty t) h = h.0

contacts_compiled : (chart : Chart) (atoms : List (Atom ℕ)) (contacts : ℕ) → Compiled chart atoms → Spelt chart.atoms (contact_at chart) contacts
    → Contacts atoms contacts
contacts_compiled chart atoms contacts h s =
    subst (λ (n : ℕ). Spelt n (λ i. is_contact (atom_at atoms i)) contacts) h.counted
    (record {
      small = s.small;
      bits = λ p l.
          let i : ℕ = chart.atoms - 1 - p in
          s.bits p l
          ∙ contact_is chart.names (contact_at chart i) (mem_at chart.xs i) (mem_at chart.ys i) (atom_at atoms i)
          (h.atom_is i (omega (arith, h.counted)));
    })

-- ---- the answer

pub root_first : (code ends : List ℕ) (chart : Chart) (asked : Asked) (contacts : ℕ) (list list' : List ℕ) (count : ℕ) (cut : Cut) (r : Option ℕ)
    → Spelt chart.atoms (contact_at chart) contacts → ListSays chart list list' count → CutOf (part list' 0 count) contacts chart.atoms asked cut
    → ((g : Given code ends chart cut) → Serving chart.names g.atoms (part list' 0 count) → Finds g 0 0 (cut.k + (cut.w + cut.r)) r)
    → SearchSays (question_of asked) code ends chart r
unfolding SearchSays row_bits
root_first code ends chart asked contacts list list' count cut r spelt words cuts finds = λ atoms rules h.
    let same : chart.atoms ≡ length atoms = h.compiled.counted in
    let z : count ≡ count - 0 = omega arith in
    let all : cut.k + (cut.w + cut.r) ≡ length atoms = omega (arith, cuts.all) in
    let given : Given code ends chart cut = record {
      atoms = atoms;
      rules = rules;
      compiled = h.compiled;
      counted = sym same ∙ cuts.all;
      coded = subst (λ (n : ℕ). Coded n code ends rules) same h.coded;
      contacts_are = subst (Contacts atoms) (sym cuts.contacts_is) (contacts_compiled chart atoms contacts h.compiled spelt);
    } in
    finds given (subst (λ (x : ℕ). Serving chart.names atoms (take x list')) z (words.are atoms h.compiled))
    ∙ ap₂ (λ (x : Asked) (m : ℕ). answer_for (first (good (question_of x) chart.names atoms rules) (under [] m))) cuts.asked_is all
