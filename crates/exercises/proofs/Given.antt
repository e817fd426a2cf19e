-- What `book` gives, by whether the buffer has room for the text. Assumes nothing.
use mathlib.Core.Path.{◌≡◌, sym, ap, ◌∙◌}
use mathlib.Core.Bool.{Bool, true, false, cond}
use mathlib.Core.List.{List}
use Prim.Native.Nat.{ℕ, ◌≤◌, ◌<◌}
use native.Mathlib.Omega.{arith}
use borrow.Author.Tests.{le-leb, lt-leb}
use lib.ListN.{length, drop, length-append}
use Rattle.std.specs.Prelude.{Result, Ok, Err}
use Rattle.lists.specs.Buffer.{over}
use Rattle.lists.specs.declared.ShortBuffer.{ShortBuffer}
use Rattle.lists.specs.Putting.{Puts}
use Rattle.lists.proofs.Buffer.{written_over}
use Rattle.exercises.specs.Answer.{fits, Gives}

pub gives_needed : (text buffer : List ℕ) (n : ℕ) → length text ≡ n → length buffer < n → Gives text buffer (Err (record { needed = n })) buffer
gives_needed text buffer n e h =
    let b : fits text buffer ≡ false = lt-leb (length text) (length buffer) (omega (arith, e)) in
    record { answer = rw (b, e); bytes = rw b }

pub gives_text : {text buffer exit : List ℕ} {end : ℕ} → Puts 0 text buffer exit end → Gives text buffer (Ok end) exit
gives_text {text} {buffer} {exit} {end} p =
    let b : fits text buffer ≡ true = le-leb (length text) (length buffer) (omega (arith, p.fits)) in
    let e : end ≡ length text = omega (arith, p.place) in
    record { answer = rw (b, e); bytes = rw b (p.bytes ∙ written_over text buffer) }

-- a text that is given is in the buffer
abbrev needs : ℕ → Result ℕ ShortBuffer
needs n = Err (record { needed = n })

abbrev length_given : Result ℕ ShortBuffer → ℕ
length_given (Ok n) = n
length_given (Err e) = 0

within : (b : Bool) (text buffer exit : List ℕ) (n : ℕ) → Ok n ≡ cond b (Ok (length text)) (needs (length text))
    → exit ≡ cond b (over text buffer) buffer → n ≤ length exit
unfolding over
within true text buffer exit n a e = omega (arith, ap length_given a, ap length e, length-append text (drop (length text) buffer))
within false text buffer exit n a e = omega (arith, ap length_given a)

pub given_within : {text buffer exit : List ℕ} {r : Result ℕ ShortBuffer} (n : ℕ) → Gives text buffer r exit → r ≡ Ok n → n ≤ length exit
given_within {text} {buffer} {exit} n g e = within (fits text buffer) text buffer exit n (sym e ∙ g.answer) g.bytes
