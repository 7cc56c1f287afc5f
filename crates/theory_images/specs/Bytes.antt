-- Bytes: what is put is read, and what is read hangs on the bytes read alone. Over any list and any place. Assumes
-- nothing.
use Rattle.std.specs.Prelude.{◌≡◌, List, [], ◌∷◌, true, ◌⊎◌, length, set}
use Rattle.std.proofs.Math.Path.{refl}
use Rattle.std.proofs.Common.{sym, ◌∙◌, inl, inr, arith, add-zero, mod-eq_of_lt, div-add-mod', shr-shr, length-set, get_or-set_same, get_or-set_other, eq-eqb, eqb-true}
use Prim.Native.Nat.{ℕ, zero, suc, ◌+◌, ◌*◌, ◌/◌, ◌%◌, ◌<◌, ◌≤◌}
use Rattle.geometry.specs.declared.Entry.{Entry}
use Rattle.geometry.specs.Tests.{and_left, and_right, and_both}
use Rattle.geometry.specs.Bounds.{four_bytes}
use Rattle.model.specs.Bytes.{byte_at, u32_at, blank, entries_at}
use Rattle.model.specs.Page.{put_u32, put_entry, put_entries}
use Rattle.model.specs.Stores.{written}
use Rattle.theory_lists.specs.Written.{written_before, written_after}
use Rattle.theory_counts.specs.Cases.{by_eq}
use Rattle.theory_lists.specs.All.{All}

-- ---- the n bytes of b from q on are those of a from p on: what is read there is alike
abbrev pub Copy : List ℕ → ℕ → List ℕ → ℕ → ℕ → Type 0
Copy a p b q n = (k : ℕ) → k < n → byte_at b (q + k) ≡ byte_at a (p + k)

module _ (a : List ℕ) (p : ℕ) (b : List ℕ) (q n : ℕ) (copy : Copy a p b q n) where
  -- i, j: the two places, o bytes from the two beginnings
  pub copy_byte : (o i j : ℕ) → i ≡ p + o → j ≡ q + o → o < n → byte_at b j ≡ byte_at a i
  copy_byte o i j e f h = rw (e, f) (copy o h)

  pub copy_u32 : (o i j : ℕ) → i ≡ p + o → j ≡ q + o → o + 4 ≤ n → u32_at b j ≡ u32_at a i
  unfolding u32_at
  copy_u32 o i j e f h = rw (
    copy_byte o i j e f (omega arith),
    copy_byte (o + 1) (i + 1) (j + 1) (omega arith) (omega arith) (omega arith),
    copy_byte
        (o + 2) (i + 2) (j + 2) (omega arith) (omega arith) (omega arith),
    copy_byte (o + 3) (i + 3) (j + 3) (omega arith) (omega arith) (omega arith),
  )

  pub copy_blank : (m o i j : ℕ) → i ≡ p + o → j ≡ q + o → o + m ≤ n → blank b j m ≡ blank a i m
  unfolding blank
  copy_blank zero o i j e f h = refl
  copy_blank (suc m) o i j e f h = rw (
    copy_byte o i j e f (omega arith),
    copy_blank m (o + 1) (i + 1) (j + 1) (omega arith) (omega arith)
        (omega arith),
  )

  pub copy_entries : (m o i j : ℕ) → i ≡ p + o → j ≡ q + o → o + 8 * m ≤ n → entries_at b j m ≡ entries_at a i m
  unfolding entries_at
  copy_entries zero o i j e f h = refl
  copy_entries (suc m) o i j e f h = rw (
    copy_u32 o i j e f (omega arith),
    copy_u32 (o + 4) (i + 4) (j + 4) (omega arith) (omega arith) (omega arith),
    copy_entries m (o + 8) (i + 8) (j + 8) (omega arith) (omega arith) (omega arith),
  )

-- ---- blank and its bytes
pub blank_all : (img : List ℕ) (n at : ℕ) → ((k : ℕ) → k < n → byte_at img (at + k) ≡ 255) → blank img at n ≡ true
unfolding blank
blank_all img zero at h = refl
blank_all img (suc n) at h = and_both _ _ (eq-eqb (byte_at img at) 255 (rw add-zero at (h 0 (omega arith))))
    (blank_all img n (at + 1) (λ k l. let e : at + 1 + k ≡ at + suc k = omega arith in rw e (h (suc k) (omega arith))))

-- the byte i of n blank bytes from `at` on
pub blank_get : (img : List ℕ) (n at i : ℕ) → blank img at n ≡ true → at ≤ i → i < at + n → byte_at img i ≡ 255
unfolding blank
blank_get img zero at i e h q = absurd (omega arith)
blank_get img (suc n) at i e h q = by_eq i at (λ z. rw z (eqb-true (byte_at img at) 255 (and_left _ _ e)))
    (λ z. blank_get img n (at + 1) i (and_right _ _ e) (omega arith) (omega arith))

abbrev pub Off : ℕ → ℕ → ℕ → Type 0
Off i at n = (i < at) ⊎ (at + n ≤ i)

pub written_off : (l : List ℕ) (at : ℕ) (f : ℕ → ℕ) (n i : ℕ) → Off i at n → byte_at (written l at f n) i ≡ byte_at l i
written_off l at f n i (inl h) = written_before l at f n i 0 h
written_off l at f n i (inr h) = written_after l at f n i 0 h

-- ---- a number of 32 bits
-- four bytes set one after the other
module _ (b : List ℕ) (i w x y z : ℕ) where
  abbrev b₁ : List ℕ
  b₁ = set b i w

  abbrev b₂ : List ℕ
  b₂ = set b₁ (i + 1) x

  abbrev b₃ : List ℕ
  b₃ = set b₂ (i + 2) y

  abbrev b₄ : List ℕ
  b₄ = set b₃ (i + 3) z

  four_length : length b₄ ≡ length b
  four_length = length-set b₃ (i + 3) z ∙ length-set b₂ (i + 2) y ∙ length-set b₁ (i + 1) x ∙ length-set b i w

  four_off : (k : ℕ) → Off k i 4 → byte_at b₄ k ≡ byte_at b k
  four_off k h = other (i + 3) b₃ z (λ e. out k h 3 (omega arith) e)
      ∙ other (i + 2) b₂ y (λ e. out k h 2 (omega arith) e) ∙ other (i + 1) b₁ x
      (λ e. out k h 1 (omega arith) e) ∙ other i b w (λ e. out k h 0 (omega arith) (e ∙ sym (add-zero i)))
    where
      other : (at : ℕ) (l : List ℕ) (v : ℕ) → (k ≡ at → ⊥) → byte_at (set l at v) k ≡ byte_at l k
      other at l v d = get_or-set_other l at k v 0 d

      out : (k : ℕ) → Off k i 4 → (o : ℕ) → o < 4 → k ≡ i + o → ⊥
      out k (inl h) o q e = omega arith
      out k (inr h) o q e = omega arith

  four_in : i + 4 ≤ length b → (byte_at b₄ i ≡ w) × (byte_at b₄ (i + 1) ≡ x) × (byte_at b₄ (i + 2) ≡ y) ×
      (byte_at b₄ (i + 3) ≡ z)
  four_in h =
      let l₁ = length-set b i w in
      let l₂ = length-set b₁ (i + 1) x in
      let l₃ = length-set b₂ (i + 2) y in (
        get_or-set_other b₃ (i + 3) i z 0 (λ e. omega (arith, e))
            ∙ get_or-set_other b₂ (i + 2) i y 0 (λ e. omega (arith, e)) ∙ get_or-set_other b₁
            (i + 1) i x 0 (λ e. omega (arith, e)) ∙ get_or-set_same b i w 0 (omega (arith, h)),
        get_or-set_other b₃ (i + 3) (i + 1) z 0 (λ e. omega (arith, e))
            ∙ get_or-set_other b₂ (i + 2) (i + 1) y 0 (λ e. omega (arith, e))
            ∙ get_or-set_same b₁ (i + 1) x 0 (omega (arith, h, l₁)),
        get_or-set_other b₃ (i + 3) (i + 2) z 0 (λ e. omega (arith, e))
            ∙ get_or-set_same b₂ (i + 2) y 0 (omega (arith, h, l₁, l₂)),
        get_or-set_same b₃ (i + 3) z 0 (omega (arith, h, l₁, l₂, l₃)),
      )

pub length_word : (b : List ℕ) (i v : ℕ) → length (put_u32 b i v) ≡ length b
unfolding put_u32
length_word b i v = four_length b i (v % 256) (v / 256 % 256) (v / 65536 % 256) (v / 16777216 % 256)

pub word_off : (b : List ℕ) (i v k : ℕ) → Off k i 4 → byte_at (put_u32 b i v) k ≡ byte_at b k
unfolding put_u32
word_off b i v k h = four_off b i (v % 256) (v / 256 % 256) (v / 65536 % 256) (v / 16777216 % 256) k h

pub length_entry : (b : List ℕ) (i : ℕ) (e : Entry) → length (put_entry b i e) ≡ length b
unfolding put_entry
length_entry b i e = length_word (put_u32 b i e.key) (i + 4) e.addr ∙ length_word b i e.key

pub length_entries : (b : List ℕ) (at : ℕ) (es : List Entry) → length (put_entries b at es) ≡ length b
unfolding put_entries
length_entries b at [] = refl
length_entries b at (e ∷ es) = length_entries (put_entry b at e) (at + 8) es ∙ length_entry b at e

pub entry_off : (b : List ℕ) (i : ℕ) (e : Entry) (k : ℕ) → Off k i 8 → byte_at (put_entry b i e) k ≡ byte_at b k
unfolding put_entry
entry_off b i e k (inl h) = word_off (put_u32 b i e.key) (i + 4) e.addr k (inl (omega arith))
    ∙ word_off b i e.key k (inl h)
entry_off b i e k (inr h) = word_off (put_u32 b i e.key) (i + 4) e.addr k (inr (omega arith))
    ∙ word_off b i e.key k (inr (omega arith))

pub entries_off : (b : List ℕ) (at : ℕ) (es : List Entry) (k : ℕ) → Off k at (8 * length es)
    → byte_at (put_entries b at es) k ≡ byte_at b k
unfolding put_entries
entries_off b at [] k h = refl
entries_off b at (e ∷ es) k (inl h) = entries_off (put_entry b at e) (at + 8) es k (inl (omega arith))
    ∙ entry_off b at e k (inl h)
entries_off b at (e ∷ es) k (inr h) = entries_off (put_entry b at e) (at + 8) es k (inr (omega arith))
    ∙ entry_off b at e k (inr (omega arith))

digits : (v a b c p q r : ℕ) → a * 256 + p ≡ v → b * 256 + q ≡ a → c * 256 + r ≡ b
    → p + 256 * q + 65536 * r + 16777216 * c ≡ v
digits v a b c p q r x y z = omega arith

four_bytes_lem : (v : ℕ) → v < four_bytes → v % 256 + 256 * (v / 256 % 256) + 65536 * (v / 65536 % 256) + 16777216 *
    (v / 16777216 % 256) ≡ v
four_bytes_lem v h =
    let top : v / 16777216 < 256 = omega arith in
    rw (mod-eq_of_lt top) (digits v (v / 256) (v / 65536) (v / 16777216) _ _ _ (div-add-mod' v 256)
    (rw (shr-shr v 8 8) at (div-add-mod' (v / 256) 256)) (rw (shr-shr v 16 8) at (div-add-mod' (v / 65536) 256)))

pub word_same : (b : List ℕ) (i v : ℕ) → i + 4 ≤ length b → v < four_bytes → u32_at (put_u32 b i v) i ≡ v
unfolding put_u32 u32_at
word_same b i v h hv = let w = four_in b i (v % 256) (v / 256 % 256) (v / 65536 % 256) (v / 16777216 % 256) h in
    rw (w.0, w.1, w.2, w.3)
    (four_bytes_lem v hv)

abbrev pub Fits : Entry → Type 0
Fits e = (e.key < four_bytes) × (e.addr < four_bytes)

pub entry_key : (b : List ℕ) (i : ℕ) (e : Entry) → i + 8 ≤ length b → e.key < four_bytes
    → u32_at (put_entry b i e) i ≡ e.key
unfolding put_entry
entry_key b i e h f =
    let b₁ = put_u32 b i e.key in
    copy_u32 b₁ i (put_u32 b₁ (i + 4) e.addr) i 4 (λ k q. word_off b₁ (i + 4) e.addr (i + k) (inl (omega arith))) 0 i i (omega arith)
    (omega arith) (omega arith) ∙ word_same b i e.key (omega arith) f

pub entry_addr : (b : List ℕ) (i : ℕ) (e : Entry) → i + 8 ≤ length b → e.addr < four_bytes → u32_at (put_entry b i e)
    (i + 4) ≡ e.addr
unfolding put_entry
entry_addr b i e h f = word_same (put_u32 b i e.key) (i + 4) e.addr (omega (arith, length_word b i e.key)) f

-- what was put is read
pub entries_same : (b : List ℕ) (at : ℕ) (es : List Entry) → at + 8 * length es ≤ length b → All Fits es
    → entries_at (put_entries b at es) at (length es) ≡ es
unfolding entries_at put_entries
entries_same b at [] h f = refl
entries_same b at (e ∷ es) h f =
    let b₁ = put_entry b at e in
    let b₂ = put_entries b₁ (at + 8) es in
    let same : Copy b₁ at b₂ at 8 = λ k q. entries_off b₁ (at + 8) es (at + k) (inl (omega arith)) in
    let k : u32_at b₂ at ≡ e.key = copy_u32 b₁ at b₂ at 8 same 0 at at (omega arith) (omega arith) (omega arith)
    ∙ entry_key b at e (omega arith)
    f.0.0 in
    let a : u32_at b₂ (at + 4) ≡ e.addr = copy_u32 b₁ at b₂ at 8 same 4 (at + 4) (at + 4) refl refl (omega arith)
    ∙ entry_addr b at e (omega arith)
    f.0.1 in
    rw (k, a, entries_same b₁ (at + 8) es (omega (arith, length_entry b at e)) f.1)
