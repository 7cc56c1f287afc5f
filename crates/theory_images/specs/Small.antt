-- Every byte is below 256: what is read fits 32 bits, and the stores keep it. Assumes nothing.
use Rattle.std.specs.Prelude.{◌≡◌, refl, List, [], ◌∷◌, Bool, true, false, ℕ, zero, suc, ◌+◌, ◌*◌, ◌/◌, ◌%◌, ◌<◌, ◌≤◌, length, set, replicate, ltb}
use Rattle.std.proofs.Common.{arith, get_or-set_same, get_or-set_other, ltb-true, ltb-false}
use Rattle.std.proofs.lemmas.List.{length-replicate, get_or-replicate}
use Rattle.std.proofs.Math.ListN.{get_or-eq_default}
use Rattle.std.proofs.Math.Seq.{set_out}
use Rattle.geometry.specs.declared.Geometry.{Geometry}
use Rattle.geometry.specs.declared.Entry.{Entry}
use Rattle.geometry.specs.Geometry.{page_bytes, halves, code_place, page_base, first_slot}
use Rattle.geometry.specs.Bounds.{four_bytes}
use Rattle.model.specs.Bytes.{byte_at, u32_at, entries_at, node_place, node_count, node_at}
use Rattle.model.specs.Codes.{fresh_code, put_code}
use Rattle.model.specs.Page.{put_u32, put_entry, put_entries, put_level, put_levels, numbered, coded, sealed, built}
use Rattle.model.specs.Stores.{Store, program, erase, written, apply_store}
use Rattle.theory_counts.specs.Cases.{by_eq}
use Rattle.theory_lists.specs.All.{All}
use Rattle.theory_images.specs.Bytes.{Fits}

abbrev pub Small : List ℕ → Type 0
Small l = (i : ℕ) → byte_at l i < 256

-- reading
pub u32_fits : (img : List ℕ) (i : ℕ) → Small img → u32_at img i < four_bytes
unfolding u32_at
u32_fits img i s = omega (arith, s i, s (i + 1), s (i + 2), s (i + 3))

pub entries_fit : (img : List ℕ) → Small img → (n at : ℕ) → All Fits (entries_at img at n)
unfolding entries_at
entries_fit img s zero at = tt
entries_fit img s (suc n) at = ((u32_fits img at s, u32_fits img (at + 4) s), entries_fit img s n (at + 8))

pub node_fits : (g : Geometry) (img : List ℕ) → Small img → (q l : ℕ) → All Fits (node_at g img q l)
unfolding node_at
node_fits g img s q l = entries_fit img s (node_count g img q l) (node_place g q l)

-- putting
set_small : (l : List ℕ) (at x : ℕ) → Small l → x < 256 → Small (set l at x)
set_small l at x s h i = by_eq i at (λ e. rw e (go (ltb at (length l)) refl)) (λ e. rw (get_or-set_other l at i x 0 (λ z. e z)) (s i))
  where
    go : (t : Bool) → ltb at (length l) ≡ t → byte_at (set l at x) at < 256
    go true e = rw (get_or-set_same l at x 0 (ltb-true at (length l) e)) h
    go false e = rw (set_out l at x (ltb-false at (length l) e)) (s at)

written_small : (l : List ℕ) (at : ℕ) (f : ℕ → ℕ) (n : ℕ) → Small l → ((k : ℕ) → f k < 256) → Small (written l at f n)
unfolding written
written_small l at f zero s h = s
written_small l at f (suc n) s h = set_small (written l at f n) (at + n) (f n) (written_small l at f n s h) (h n)

four_small : (b : List ℕ) (i w x y z : ℕ) → Small b → w < 256 → x < 256 → y < 256 → z < 256
    → Small (set (set (set (set b i w) (i + 1) x) (i + 2) y) (i + 3) z)
four_small b i w x y z s hw hx hy hz =
    let s₁ = set_small b i w s hw in
    let s₂ = set_small (set b i w) (i + 1) x s₁ hx in
    let s₃ = set_small (set (set b i w) (i + 1) x) (i + 2) y s₂ hy in
    set_small (set (set (set b i w) (i + 1) x) (i + 2) y) (i + 3) z s₃ hz

word_small : (b : List ℕ) (i v : ℕ) → Small b → Small (put_u32 b i v)
unfolding put_u32
word_small b i v s = four_small b i (v % 256) (v / 256 % 256) (v / 65536 % 256) (v / 16777216 % 256) s (omega arith) (omega arith) (omega arith)
    (omega arith)

entries_small : (b : List ℕ) (at : ℕ) (es : List Entry) → Small b → Small (put_entries b at es)
unfolding put_entries put_entry
entries_small b at [] s = s
entries_small b at (e ∷ es) s = entries_small (put_entry b at e) (at + 8) es (word_small (put_u32 b at e.key) (at + 4) e.addr
    (word_small b at e.key s))

levels_small : (g : Geometry) (parts : ℕ → List Entry) (n : ℕ) (b : List ℕ) → Small b → Small (put_levels g parts n b)
unfolding put_levels put_level
levels_small g parts zero b s = s
levels_small g parts (suc n) b s = set_small (put_entries (put_levels g parts n b) (8 * first_slot g (suc n)) (parts (suc n))) (g.main + 4 + suc n)
    (length (parts (suc n)) % 256) (entries_small (put_levels g parts n b) (8 * first_slot g (suc n)) (parts (suc n)) (levels_small g parts n b s))
    (omega arith)

blank_small : (n : ℕ) → Small (replicate n 255)
blank_small n i = go (ltb i n) refl
  where
    go : (t : Bool) → ltb i n ≡ t → byte_at (replicate n 255) i < 256
    go true e = rw (get_or-replicate {A = ℕ} n i 255 0 (ltb-true i n e)) (omega arith)
    go false e =
        let z : length {A = ℕ} (replicate n 255) ≡ n = length-replicate {A = ℕ} n 255 in
        let w : length {A = ℕ} (replicate n 255) ≤ i = omega (arith, z, ltb-false i n e) in
        rw (get_or-eq_default {A = ℕ} (replicate n 255) 0 w) (omega arith)

coded_small : (g : Geometry) (k : ℕ) (b : List ℕ) → Small b → Small (coded g k b)
unfolding coded put_code
coded_small g zero b s = s
coded_small g (suc k) b s =
    let old = coded g k b in
    let v = fresh_code old (256 * k) in
    let c = code_place g k in
    set_small (set (set old c (v % 256)) (c + 1) (v / 256 % 256)) (c + 2) (v / 65536 % 256)
    (set_small (set old c (v % 256)) (c + 1) (v / 256 % 256) (set_small old c (v % 256) (coded_small g k b s) (omega arith)) (omega arith)) (omega arith)

pub built_small : (g : Geometry) (seq h : ℕ) (parts : ℕ → List Entry) → Small (built g seq h parts)
unfolding built sealed numbered
built_small g seq h parts =
    let laid_levels = put_levels g parts g.top (replicate (page_bytes g) 255) in
    coded_small g (halves g) (numbered g laid_levels seq h) (set_small (put_u32 laid_levels g.main seq)
    (g.main + 4) (h % 256) (word_small laid_levels g.main seq
    (levels_small g parts g.top (replicate (page_bytes g) 255) (blank_small (page_bytes g)))) (omega arith))

abbrev pub SmallStore : Store → Type 0
SmallStore (program p bs) = Small bs
SmallStore (erase b) = Unit {0}

pub store_small : (g : Geometry) (s : Store) (img : List ℕ) → SmallStore s → Small img → Small (apply_store g s img)
unfolding apply_store
store_small g (program p bs) img h s = written_small img (page_base g p) (byte_at bs) (page_bytes g) s h
store_small g (erase b) img h s = written_small img (page_base g (g.pages * b)) (λ k. 255) (page_base g g.pages) s (λ k. omega arith)
