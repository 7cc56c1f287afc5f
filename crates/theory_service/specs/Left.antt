-- What the calls of the C library leave, by their contracts in crates/camera/src/lib.rt: the number returned, the
-- image, the lent words and the result buffer. And how the numbers of a result are read. Assumes nothing.
use Rattle.std.specs.Prelude.{◌≡◌, refl, List, [], ◌∷◌, Bool, true, false, ℕ, zero, suc, ◌+◌, ◌*◌, ◌<◌, ◌≤◌, ltb, length, get_or, None, Option, Some}
use Rattle.std.proofs.Common.{ap, ◌∙◌, inl, arith, ltb-false, le-ltb, lt-ltb}
use Rattle.geometry.specs.declared.Geometry.{Geometry}
use Rattle.geometry.specs.Geometry.{small, large, chosen_of}
use Rattle.geometry.specs.Tests.{pick}
use Rattle.geometry.specs.Bounds.{four_bytes}
use Rattle.model.specs.Bytes.{u32_at}
use Rattle.model.specs.Page.{put_u32}
use Rattle.model.specs.Image.{blocks_of}
use Rattle.model.specs.Calls.{Outcome, chosen_call, format_of, lookup_of}
use Rattle.model.specs.Listing.{list_of, as_outcome}
use Rattle.theory_images.specs.Bytes.{copy_u32, length_word, word_off, word_same}
use Rattle.live_words.specs.Words.{words_of}
use Rattle.live_words.specs.Live.{Reply, reply, insert_live_of, delete_live_of}
use Rattle.camera.specs.Camera.{Left, put_numbers, numbers_of, returned, words_left}

-- mutree_format, mutree_lookup, mutree_insert, mutree_delete; `kind` is the number of the geometry
abbrev pub formats : ℕ → List ℕ → List ℕ → Left
formats kind image result = returned (format_of kind image) image result

abbrev pub looks_up : ℕ → List ℕ → ℕ → List ℕ → Left
looks_up kind image key result = returned (lookup_of kind image key) image result

abbrev pub inserts : ℕ → List ℕ → List ℕ → ℕ → ℕ → ℕ → List ℕ → Left
inserts kind image live key address allowance result =
    returned (insert_live_of kind image live key address allowance).outcome image result

abbrev pub deletes : ℕ → List ℕ → List ℕ → ℕ → ℕ → List ℕ → Left
deletes kind image live key allowance result =
    returned (delete_live_of kind image live key allowance).outcome image result

-- the lent words afterwards
abbrev pub insert_words : ℕ → List ℕ → List ℕ → ℕ → ℕ → ℕ → List ℕ → List ℕ
insert_words kind image live key address allowance result =
    words_left (insert_live_of kind image live key address allowance) live result

abbrev pub delete_words : ℕ → List ℕ → List ℕ → ℕ → ℕ → List ℕ → List ℕ
delete_words kind image live key allowance result = words_left (delete_live_of kind image live key allowance) live result

-- the lent words are enough for the image
abbrev pub Enough : List ℕ → List ℕ → Geometry → Type 0
Enough image live g = words_of g (blocks_of g image) ≤ length live

-- mutree_list; what is left has the lent pairs where the others have the image
abbrev pub lists_pairs : ℕ → List ℕ → ℕ → ℕ → List ℕ → List ℕ → Left
lists_pairs kind image low high pairs result = returned (as_outcome (list_of kind image low high pairs)) pairs result

-- 0 is the small chip, 1 the large one, and no other number is a geometry's
pub zero_small : chosen_of 0 ≡ Some small
zero_small = refl

pub one_large : chosen_of 1 ≡ Some large
one_large = refl

pub other_unknown : (kind : ℕ) → 2 ≤ kind → chosen_of kind ≡ None
other_unknown zero h = absurd (omega (arith, h))
other_unknown (suc zero) h = absurd (omega (arith, h))
other_unknown (suc (suc kind)) h = refl

-- a call of any kind with the number of a geometry is the call on that geometry
pub on : {A : Type 0} (kind : ℕ) (g : Geometry) → chosen_of kind ≡ Some g → (call : Geometry → A) (other : A)
    → chosen_call (chosen_of kind) call other ≡ call g
unfolding chosen_call
on kind g is call other = ap (λ (c : Option Geometry). chosen_call c call other) is

-- the outcome of a call with lent words is a call of outcomes
pub outcome_chosen : (c : Option Geometry) (call : Geometry → Reply) (o : Outcome) (words : List ℕ)
    → (chosen_call c call (reply o words)).outcome ≡ chosen_call c (λ g. (call g).outcome) o
unfolding chosen_call
outcome_chosen (Some g) call o words = refl
outcome_chosen None call o words = refl

-- the numbers of a result, by their places
abbrev pub number_in : ℕ → List ℕ → ℕ
number_in i result = u32_at result (4 * i)

abbrev pub answer_in : List ℕ → ℕ
answer_in result = number_in 0 result

abbrev pub address_in : List ℕ → ℕ
address_in result = number_in 1 result

abbrev pub programmed_in : List ℕ → ℕ
programmed_in result = number_in 2 result

abbrev pub erased_in : List ℕ → ℕ
erased_in result = number_in 3 result

-- of a listing: pairs that exist, pairs written
abbrev pub exist_in : List ℕ → ℕ
exist_in result = number_in 1 result

abbrev pub written_in : List ℕ → ℕ
written_in result = number_in 2 result

abbrev pub rule_in : List ℕ → ℕ
rule_in result = number_in 4 result

abbrev pub page_in : List ℕ → ℕ
page_in result = number_in 5 result

-- what is left where the result buffer is too short, and where it is not
abbrev pub short : List ℕ → List ℕ → Left
short image result = record { answer = 1; image = image; result = result }

abbrev pub whole : Outcome → List ℕ → Left
whole o result = record { answer = o.answer; image = o.image; result = put_numbers result 0 (numbers_of o) }

-- a call that does not answer 1 had a result buffer of 24 bytes or more, and leaves the outcome
pub record Told (o : Outcome) (result : List ℕ) (l : Left) : Type 0 where
  pub room : 24 ≤ length result
  pub answer_is : l.answer ≡ o.answer
  pub image_is : l.image ≡ o.image
  pub result_is : l.result ≡ put_numbers result 0 (numbers_of o)

pub told : (o : Outcome) (image result : List ℕ) → ((returned o image result).answer ≡ 1 → ⊥)
    → Told o result (returned o image result)
unfolding returned
told o image result n = go (ltb (length result) 24) refl n
  where
    go : (t : Bool) → ltb (length result) 24 ≡ t → ((pick {A = Left} t (short image result) (whole o result)).answer ≡ 1
        → ⊥)
        → Told o result (pick t (short image result) (whole o result))
    go true e m = absurd (m refl)
    go false e m = record { room = ltb-false (length result) 24 e; answer_is = refl; image_is = refl; result_is = refl }

-- a result buffer of 24 bytes or more takes the outcome; a shorter one gives 1, and nothing changes
pub told_whole : (o : Outcome) (image result : List ℕ) → 24 ≤ length result → returned o image result ≡ whole o result
unfolding returned
told_whole o image result h = rw (le-ltb (length result) 24 h)

pub told_short : (o : Outcome) (image result : List ℕ) → length result < 24
    → returned o image result ≡ short image result
unfolding returned
told_short o image result h = rw (lt-ltb (length result) 24 h)

-- the lent words alike
pub words_whole : (r : Reply) (old result : List ℕ) → 24 ≤ length result → words_left r old result ≡ r.words
unfolding words_left
words_whole r old result h = rw (le-ltb (length result) 24 h)

pub words_kept : (r : Reply) (old result : List ℕ) → length result < 24 → words_left r old result ≡ old
unfolding words_left
words_kept r old result h = rw (lt-ltb (length result) 24 h)

-- a number is not touched by those written behind it
word_before : (b : List ℕ) (i j v : ℕ) → i + 4 ≤ j → u32_at (put_u32 b j v) i ≡ u32_at b i
word_before b i j v h = copy_u32 b i (put_u32 b j v) i 4 (λ k q. word_off b j v (i + k) (inl (omega (arith, h, q)))) 0 i
    i (omega arith) (omega arith) (omega arith)

numbers_before : (b vs : List ℕ) (i at : ℕ) → i + 4 ≤ at → u32_at (put_numbers b at vs) i ≡ u32_at b i
unfolding put_numbers
numbers_before b [] i at h = refl
numbers_before b (v ∷ vs) i at h = numbers_before (put_u32 b at v) vs i (at + 4) (omega (arith, h))
    ∙ word_before b i at v h

-- each number of a list is read as it was put
pub number_read : (b vs : List ℕ) (at i : ℕ) → at + 4 * length vs ≤ length b → i < length vs → get_or vs i 0 < four_bytes
    → u32_at (put_numbers b at vs) (at + 4 * i) ≡ get_or vs i 0
unfolding put_numbers
number_read b [] at i room h low = absurd (omega (arith, h))
number_read b (v ∷ vs) at zero room h low =
    let q : at + 4 * 0 ≡ at = omega arith in
    rw q (numbers_before (put_u32 b at v) vs at (at + 4) (omega arith) ∙ word_same b at v (omega (arith, room)) low)
number_read b (v ∷ vs) at (suc i) room h low =
    let q : at + 4 * suc i ≡ at + 4 + 4 * i = omega arith in
    rw q (number_read (put_u32 b at v) vs (at + 4) i (omega (arith, room, length_word b at v)) (omega (arith, h)) low)

-- so is each number of an outcome
pub told_number : (o : Outcome) (result : List ℕ) → 24 ≤ length result → (i : ℕ) → i < 6
    → get_or (numbers_of o) i 0 < four_bytes
    → number_in i (whole o result).result ≡ get_or (numbers_of o) i 0
told_number o result room i h low = let q : 4 * i ≡ 0 + 4 * i = omega arith in
    rw q (number_read result (numbers_of o) 0 i room h low)
