-- Laws of the two stores, in the form in which the code has the premises. Assumes nothing.
use Rattle.std.specs.Prelude.{◌≡◌, refl, List, [], ◌∷◌, ◌++◌, ℕ, zero, suc, ◌+◌, ◌-◌, ◌*◌, ◌<◌, ◌≤◌, length, set, take, drop, get_or, replicate}
use Rattle.std.proofs.Common.{sym, ap, ◌∙◌, arith, zero-add, take-append-drop, length-drop, get_or-take, length-take-le, ext_get_or}
use Rattle.std.proofs.Math.ListN.{get_or-eq_default}
use Rattle.std.proofs.Math.Seq.{set_out}
use Rattle.std.proofs.lemmas.List.{set-append_left, length-replicate, get_or-replicate}
use Rattle.geometry.specs.declared.Geometry.{Geometry}
use Rattle.geometry.specs.Geometry.{page_bytes, page_base}
use Rattle.model.specs.Bytes.{byte_at}
use Rattle.model.specs.Stores.{program, erase, written, apply_store}
use Rattle.theory_lists.specs.Written.{written_none, written_more, written_same, written_inside, length_written, filled_more}

pub byte_past : (l : List ℕ) (at : ℕ) → length l ≤ at → 0 ≡ byte_at l at
byte_past l at h = sym (get_or-eq_default l 0 h)

pub put_past : (img : List ℕ) (at b : ℕ) → length img ≤ at → img ≡ set img at b
put_past img at b h = sym (set_out img at b h)

-- a loop that writes the image
pub loop_none : (img : List ℕ) (at : ℕ) (f : ℕ → ℕ) → img ≡ written img at f 0
loop_none img at f = written_none img at f

pub copy_more : (img d o bs : List ℕ) (at j b : ℕ) → d ≡ written img at (byte_at bs) j → b ≡ byte_at bs j
    → o ≡ set d (at + j) b → o ≡ written img at (byte_at bs) (j + 1)
copy_more img d o bs at j b e f h = h ∙ rw f (written_more img at (byte_at bs) j d e)

pub blank_more : (img d o : List ℕ) (at j : ℕ) → d ≡ written img at (λ k. 255) j → o ≡ set d (at + j) 255
    → o ≡ written img at (λ k. 255) (j + 1)
blank_more img d o at j e h = h ∙ written_more img at (λ k. 255) j d e

-- a loop that fills a part
pub fill_more : (l d : List ℕ) (f : ℕ → ℕ) (j : ℕ) → d ≡ written l 0 f j → set d j (f j) ≡ written l 0 f (j + 1)
fill_more l d f j e = filled_more l f j d e

pub loop_same : (img d : List ℕ) (at : ℕ) (f : ℕ → ℕ) (j : ℕ) → d ≡ written img at f j → length d ≡ length img
loop_same img d at f j e = rw e (length_written img at f j)

-- what is written to a part is written to the whole
set_within : (p ys z : List ℕ) (j v : ℕ) → j < length ys → set (p ++ (ys ++ z)) (length p + j) v
    ≡ p ++ (set ys j v ++ z)
set_within [] ys z j v h = rw zero-add (set-append_left ys z j v h)
set_within (x ∷ p) ys z j v h =
    let e : suc (length p) + j ≡ suc (length p + j) = omega arith in
    rw e (ap (λ (r : List ℕ). x ∷ r) (set_within p ys z j v h))

written_within : (p ys z : List ℕ) (f : ℕ → ℕ) (j : ℕ) → j ≤ length ys → written (p ++ (ys ++ z)) (length p) f j
    ≡ p ++ (written ys 0 f j ++ z)
unfolding written
written_within p ys z f zero h = refl
written_within p ys z f (suc j) h =
    rw (written_within p ys z f j (omega arith), zero-add)
    (set_within p (written ys 0 f j) z j (f j) (rw length_written (omega arith)))

pub part_is : (img y : List ℕ) (at n : ℕ) (f : ℕ → ℕ) → y ≡ written (take (at + n - at) (drop at img)) 0 f
    (length (take (at + n - at) (drop at img)))
    → at + n ≤ length img → take at img ++ (y ++ drop (at + n - at) (drop at img)) ≡ written img at f n
part_is img y at n f e h =
    let k : at + n - at ≡ n = omega arith in
    let a : length (take at img) ≡ at = length-take-le at img (omega arith) in
    let l : length (take n (drop at img)) ≡ n = length-take-le n (drop at img) (rw length-drop (omega arith)) in
    let w : take at img ++ (take n (drop at img) ++ drop n (drop at img)) ≡ img =
    ap (λ (z : List ℕ). take at img ++ z) (take-append-drop n (drop at img)) ∙ take-append-drop at img in
    let s = written_within (take at img) (take n (drop at img)) (drop n (drop at img)) f n (omega (arith, l)) in
    rw (e, k, l) (sym s ∙ rw (w, a))

-- a part written as a whole
part_written : (l y : List ℕ) (f : ℕ → ℕ) → length y ≡ length l → ((j : ℕ) → j < length l → get_or y j 0 ≡ f j)
    → y ≡ written l 0 f (length l)
part_written l y f e g =
    ext_get_or 0 y (written l 0 f (length l)) (e ∙ sym (length_written l 0 f (length l)))
    (λ j h. let k : j < length l = omega (arith, e) in
    g j k ∙ sym (rw zero-add at (written_inside l 0 f (length l) j 0 (omega arith) k)))

pub blank_is : (img y : List ℕ) (at n : ℕ) → y ≡ replicate (length (take (at + n - at) (drop at img))) 255
    → at + n ≤ length img
    → take at img ++ (y ++ drop (at + n - at) (drop at img)) ≡ written img at (λ k. 255) n
blank_is img y at n e h =
    part_is img y at n (λ k. 255)
    (part_written _ y (λ k. 255) (ap length e ∙ length-replicate _ 255)
    (λ j m. rw e (get_or-replicate _ j 255 0 m))) h

pub program_is : (g : Geometry) (img o bs : List ℕ) (p b n : ℕ) → o ≡ written img b (byte_at bs) n → b ≡ page_base g p
    → n ≡ page_bytes g
    → o ≡ apply_store g (program p bs) img
unfolding apply_store
program_is g img o bs p b n e eb en = e ∙ rw (eb, en)

pub erase_is : (g : Geometry) (img o : List ℕ) (k q b n w : ℕ) → o ≡ written img b (λ k. 255) n → b ≡ page_base g q
    → q ≡ g.pages * k → n ≡ page_base g w → w ≡ g.pages
    → o ≡ apply_store g (erase k) img
unfolding apply_store
erase_is g img o k q b n w e eb eq en ew = e ∙ rw (eb, eq, en, ew)

-- a page's bytes alone are programmed, however long the buffer
pub program_cut : (g : Geometry) (p : ℕ) (bs img : List ℕ) → apply_store g (program p bs) img ≡ apply_store g
    (program p (take (page_bytes g) bs)) img
unfolding apply_store
program_cut g p bs img =
    written_same img (page_base g p) (byte_at bs) (byte_at (take (page_bytes g) bs)) (page_bytes g) (λ j h. sym (get_or-take (page_bytes g) bs j 0 h))

pub ruleset store_laws = (byte_past, put_past, loop_none, copy_more, blank_more, fill_more, loop_same, part_is, blank_is, program_is, erase_is)
