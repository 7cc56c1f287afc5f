-- A page that is built reads back as it was built: its number, its height, its nodes. Assumes nothing.
use Rattle.std.specs.Prelude.{◌≡◌, Bool, ◌⊎◌, set, replicate, ltb}
use Rattle.std.proofs.Math.Path.{refl}
use Rattle.std.proofs.Common.{ap, ◌∙◌, inl, inr, eq-eqb, ne_eqb, ltb-true, ltb-false}
use mathlib.Core.List.{List, []}
use Rattle.std.proofs.Math.Bool.{true, false}
use Prim.Native.Nat.{ℕ, zero, suc, ◌+◌, ◌*◌, ◌%◌, ◌<◌, ◌≤◌}
use native.Mathlib.Omega.{arith}
use Rattle.std.proofs.Math.ListN.{length, length-set, length-replicate}
use Rattle.std.proofs.Math.Seq.{get_or-set_other}
use Rattle.geometry.specs.declared.Geometry.{Geometry}
use Rattle.geometry.specs.declared.Entry.{Entry}
use Rattle.geometry.specs.Tests.{pick}
use Rattle.geometry.specs.Geometry.{page_bytes, halves, code_place, slots, first_slot, slots_of, root_slots, root_most, in_table}
use Rattle.geometry.specs.Shape.{Shape, Core, most_slots}
use Rattle.geometry.specs.Bounds.{four_bytes}
use Rattle.model.specs.Bytes.{byte_at, u32_at, blank}
use Rattle.model.specs.Page.{put_u32, put_entries, put_level, put_levels, numbered, sealed, built, only}
use Rattle.theory_counts.specs.Cases.{by_eq}
use Rattle.theory_lists.specs.All.{All}
use Rattle.theory_images.specs.Bytes.{copy_u32, blank_get, Off, length_word, length_entries, word_same, Fits}
use Rattle.theory_images.specs.Codes.{length_coded, coded_off}
use Rattle.theory_images.specs.Views.{View}

-- ---- what may be built: numbers of 32 bits, places that do not overlap
pub record Parts (g : Geometry) (parts : ℕ → List Entry) : Type 0 where
  pub fits : (l : ℕ) → 1 ≤ l → l ≤ g.top → All Fits (parts l)
  pub inside : (l : ℕ) → 1 ≤ l → l ≤ g.top → first_slot g l + length (parts l) ≤ slots g
  pub bytes : (l : ℕ) → 1 ≤ l → l ≤ g.top → length (parts l) < 256
  pub apart : (l m : ℕ) → 1 ≤ l → l < m → m ≤ g.top → (length (parts m) ≡ 0) ⊎
      (first_slot g l + length (parts l) ≤ first_slot g m)

-- levels below h within the table, level h within its full slots, nothing above
pub parts_table : (g : Geometry) → Shape g → (h : ℕ) (parts : ℕ → List Entry)
    → ((l : ℕ) → 1 ≤ l → l ≤ g.top → All Fits (parts l))
    → ((l : ℕ) → 1 ≤ l → l < h → length (parts l) ≤ slots_of g l)
    → (h ≤ g.top → first_slot g h + length (parts h) ≤ slots g) → ((l : ℕ) → h < l → length (parts l) ≡ 0)
    → ((l : ℕ) → 1 ≤ l → l ≤ g.top → length (parts l) < 256) → Parts g parts
parts_table g shape h parts fits low high above bytes = record {
  fits = fits;
  bytes = bytes;
  inside = λ l i k. inside l i k (ltb l h)
      (ltb h l) refl refl;
  apart = λ l m i k q. apart l m i k q (ltb l h) (ltb h m) refl refl;
}
  where
    step : (l m : ℕ) → l < m → m ≤ g.top → first_slot g l + slots_of g l ≤ first_slot g m
    step l zero q k = absurd (omega arith)
    step l (suc m) q k = by_eq l m (λ e. rw e (shape.steps m k)) (λ e. let a = step l m (omega arith) (omega arith) in
        let b = shape.steps m k in
        omega (arith, a, b))

    inside : (l : ℕ) → 1 ≤ l → l ≤ g.top → (x y : Bool) → ltb l h ≡ x → ltb h l ≡ y
        → first_slot g l + length (parts l) ≤ slots g
    inside l i k true y e f = let a = low l i (ltb-true l h e) in let b = shape.room l k in omega (arith, a, b)
    inside l i k false true e f = let a = above l (ltb-true h l f) in let b = shape.room l k in omega (arith, a, b)
    inside l i k false false e f = let d : l ≡ h = omega (arith, ltb-false l h e, ltb-false h l f) in
        rw d (high (omega (arith, d)))

    apart : (l m : ℕ) → 1 ≤ l → l < m → m ≤ g.top → (x y : Bool) → ltb l h ≡ x → ltb h m ≡ y
        → (length (parts m) ≡ 0) ⊎ (first_slot g l + length (parts l) ≤ first_slot g m)
    apart l m i q k true y e f = let a = low l i (ltb-true l h e) in let b = step l m q k in inr (omega (arith, a, b))
    apart l m i q k false y e f = let z = ltb-false l h e in inl (above m (omega (arith, z, q)))

-- level h alone, within the most entries of a root; a lower level begins no later
pub parts_only : (g : Geometry) → Core g → (h : ℕ) (es : List Entry) → 1 ≤ h → h ≤ g.top → All Fits es
    → length es ≤ root_most g h
    → ((l : ℕ) → l < h → first_slot g l ≤ first_slot g h) → Parts g (only h es)
unfolding root_slots
parts_only g core h es a b fit most rises = record {
  fits = λ l i k. by_eq l h (λ e. rw (eq-eqb l h e) fit) (λ e. rw (ne_eqb l h e) tt);
  inside = λ l i k. by_eq l h
      (λ e. rw (eq-eqb l h e) (let x = most_slots g h in let y = core.room h b in let z = ap (first_slot g) e in
      omega (arith, x, y, z, most)))
      (λ e. rw (ne_eqb l h e) (let y = core.room l k in omega (arith, y)));
  bytes = λ l i k. by_eq l h (λ e. rw (eq-eqb l h e) (let y = core.byte h a b in
      omega (arith, y, most))) (λ e. rw (ne_eqb l h e) (omega arith));
  apart = λ l m i q k. by_eq m h
      (λ e. inr (rw (ne_eqb l h (λ z. omega (arith, z, e, q))) (let y = rises l (omega (arith, q, e)) in let z =
      ap (first_slot g) e in omega (arith, y, z))))
      (λ e. inl (rw (ne_eqb m h e) refl));
}

-- what a built page reads as
abbrev pub built_view : Geometry → ℕ → ℕ → (ℕ → List Entry) → View
built_view g seq h parts = record { er = false; seq = seq; height = h; tail = true; node = λ l. pick (in_table g l) (parts l) [] }

pub off_nothing : (i at : ℕ) → Off i at 0
off_nothing i at = go (ltb i at) refl
  where
    go : (t : Bool) → ltb i at ≡ t → (i < at) ⊎ (at + 0 ≤ i)
    go true e = inl (ltb-true i at e)
    go false e = inr (omega (arith, ltb-false i at e))

module _ (g : Geometry) (core : Core g) (parts : ℕ → List Entry) where
  pub length_levels : (n : ℕ) (b : List ℕ) → length (put_levels g parts n b) ≡ length b
  unfolding put_levels put_level
  length_levels zero b = refl
  length_levels (suc n) b = length-set (put_entries (put_levels g parts n b) (8 * first_slot g (suc n)) (parts (suc n))) (g.main + 4 + suc n)
      (length (parts (suc n)) % 256) ∙ length_entries (put_levels g parts n b) (8 * first_slot g (suc n)) (parts (suc n))
      ∙ length_levels n b

  pub length_numbered : (seq h : ℕ) (b : List ℕ) → length (numbered g b seq h) ≡ length b
  unfolding numbered
  length_numbered seq h b = length-set (put_u32 b g.main seq) (g.main + 4) (h % 256) ∙ length_word b g.main seq

  length_sealed : (seq h : ℕ) (b : List ℕ) → length (sealed g b seq h) ≡ length b
  unfolding sealed
  length_sealed seq h b = length_coded g (halves g) (numbered g b seq h) ∙ length_numbered seq h b

  pub length_built : (seq h : ℕ) → length (built g seq h parts) ≡ page_bytes g
  unfolding built
  length_built seq h = length_sealed seq h _ ∙ length_levels g.top _ ∙ length-replicate {A = ℕ} (page_bytes g) 255

  numbered_seq : (seq h : ℕ) (b : List ℕ) → g.main + 5 ≤ length b → seq < four_bytes → u32_at (numbered g b seq h)
      g.main ≡ seq
  unfolding numbered
  numbered_seq seq h b q s =
      copy_u32 (put_u32 b g.main seq) g.main (set (put_u32 b g.main seq) (g.main + 4) (h % 256)) g.main 4
      (λ k w. get_or-set_other (put_u32 b g.main seq) (g.main + 4) (g.main + k) (h % 256) 0 (omega arith)) 0 g.main g.main (omega arith)
      (omega arith) (omega arith)
      ∙ word_same b g.main seq (omega arith) s

  -- beside the codes a sealed page is a numbered one
  pub sealed_byte : (seq h : ℕ) (b : List ℕ) (k : ℕ) → (k < code_place g 0) ⊎ (code_place g (halves g) ≤ k)
      → byte_at (sealed g b seq h) k ≡ byte_at (numbered g b seq h) k
  unfolding sealed
  sealed_byte seq h b k o = coded_off g (halves g) (numbered g b seq h) k o

  sealed_seq : (seq h : ℕ) (b : List ℕ) → g.main + 5 ≤ length b → seq < four_bytes → u32_at (sealed g b seq h)
      g.main ≡ seq
  sealed_seq seq h b q s =
      copy_u32 (numbered g b seq h) g.main (sealed g b seq h) g.main 4 (λ k w. sealed_byte seq h b (g.main + k) (inl (omega arith))) 0 g.main
      g.main (omega arith) (omega arith) (omega arith)
      ∙ numbered_seq seq h b q s

  module _ (ok : Parts g parts) where
    module _ (seq h : ℕ) (small : seq < 4294967295) (high : h < 256) where
      abbrev laid_levels : List ℕ
      laid_levels = put_levels g parts g.top (replicate (page_bytes g) 255)

      pub len_bare : length {A = ℕ} (replicate (page_bytes g) 255) ≡ page_bytes g
      len_bare = length-replicate {A = ℕ} (page_bytes g) 255

      pub length_laid : length laid_levels ≡ page_bytes g
      length_laid = length_levels g.top (replicate (page_bytes g) 255) ∙ len_bare

      pub built_seq : u32_at (built g seq h parts) g.main ≡ seq
      unfolding built
      built_seq = let s = core.spare_low in sealed_seq seq h laid_levels (omega (arith, length_laid, s)) (omega arith)

      -- a number below 2^32 - 1 shows
      pub built_er : blank (built g seq h parts) 0 (page_bytes g) ≡ false
      unfolding u32_at
      built_er = go (blank (built g seq h parts) 0 (page_bytes g)) refl
        where
          go : (t : Bool) → blank (built g seq h parts) 0 (page_bytes g) ≡ t → t ≡ false
          go false e = refl
          go true e =
              let s = core.spare_low in
              let at : (k : ℕ) → k < page_bytes g → byte_at (built g seq h parts) k ≡ 255 = λ k q.
              blank_get (built g seq h parts) (page_bytes g) 0 k e (omega arith) (omega (arith, q)) in
              let b₀ = at g.main (omega (arith, s)) in
              let b₁ = at (g.main + 1) (omega (arith, s)) in
              let b₂ = at (g.main + 2) (omega (arith, s)) in
              let b₃ = at (g.main + 3) (omega (arith, s)) in
              absurd (omega (arith, built_seq, b₀, b₁, b₂, b₃, small))
