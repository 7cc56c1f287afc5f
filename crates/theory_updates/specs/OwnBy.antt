-- An update's own stores by the record are the model's: they hang on the pages of the levels up to the root's and on N
-- alone, and these are the pages to come. Assumes nothing.
use Rattle.std.specs.Prelude.{◌≡◌, eqb, leb, length}
use Rattle.std.proofs.Math.Path.{refl, ap}
use Rattle.std.proofs.Common.{◌∙◌, arith}
use mathlib.Core.List.{List, [], ◌∷◌, ◌++◌}
use Prim.Native.Nat.{ℕ, zero, suc, ◌+◌, ◌-◌, ◌*◌, ◌≤◌, min}
use Rattle.geometry.specs.declared.Geometry.{Geometry}
use Rattle.geometry.specs.declared.Entry.{Entry}
use Rattle.geometry.specs.Tests.{pick}
use Rattle.geometry.specs.Geometry.{half}
use Rattle.geometry.specs.Shape.{Shape, shape_core}
use Rattle.model.specs.Count.{count}
use Rattle.model.specs.Image.{pages_of, max_seq, Nodes, Chip, chip_of, the_root}
use Rattle.model.specs.Tree.{following, chosen}
use Rattle.model.specs.Page.{built, only}
use Rattle.model.specs.Stores.{program}
use Rattle.model.specs.Edit.{splice, edited, on_path, put_in, path_half, side_half, two, named, path_part}
use Rattle.model.specs.Update.{fills, insert_list, crown_part, insert_part, side_store, split_store, side_stores, crown_store, crown_height, side_page, own_stores}
use Rattle.theory_images.specs.Held.{Held}
use Rattle.open_record.specs.Opened.{opened_in}
use Rattle.live_beside.specs.Beside.{page_by}
use Rattle.live_beside.specs.Update.{own_stores_at, insert_crest, sides_by, own_by, crest_by}
use Rattle.theory_updates.specs.Level.{chip_right}
use Rattle.theory_updates.specs.Pages.{pages_right}

-- ---- names that agree at the levels below
module _ (r : Nodes) (k : ℕ) (leaf : List Entry → List Entry) (name name' : ℕ → Entry → List Entry → List Entry) where
  abbrev Agree : ℕ → Type 0
  Agree l = (j : ℕ) → 1 ≤ j → j ≤ l → (x : Entry) (c : List Entry) → name j x c ≡ name' j x c

  edited_alike : (l : ℕ) → Agree l → (e : Entry) → edited r k leaf name l e ≡ edited r k leaf name' l e
  unfolding edited
  edited_alike zero h e = refl
  edited_alike (suc l) h e =
      let below = edited_alike l (λ j b q. h j b (omega (arith, q))) in
      let one : (x : Entry) → name (suc l) x (edited r k leaf name l x) ≡ name' (suc l) x (edited r k leaf name' l x) =
      λ x.
      h (suc l) (omega arith) (omega arith) x (edited r k leaf name l x) ∙ ap (name' (suc l) x) (below x) in
      ap (λ (f : Entry → List Entry). splice f k (r e.addr (suc (suc l)))) (λ i x. one x i)

  path_alike : (l : ℕ) → Agree l → (e : Entry) (j : ℕ) → on_path r k leaf name l e j ≡ on_path r k leaf name' l e j
  unfolding on_path
  path_alike zero h e j = ap (λ (y : List Entry). pick (eqb j 1) y []) (edited_alike zero h e)
  path_alike (suc l) h e j =
      let a = edited_alike (suc l) h e in
      let b = path_alike l (λ j b q. h j b (omega (arith, q))) (chosen k (r e.addr (suc (suc l)))) j in
      λ i. pick (eqb j (suc (suc l))) (a i) (b i)

-- ---- pages that agree at the levels up to the root's, and for N
module _ (g : Geometry) (seq : ℕ) (c : Chip) (side side' : ℕ → ℕ) (m k a : ℕ)
    (same : (l : ℕ) → 1 ≤ l → l ≤ suc c.level → side l ≡ side' l) (last : side m ≡ side' m) where
  abbrev lists : ℕ → List Entry
  lists = insert_list g c k a (side m) side

  abbrev lists' : ℕ → List Entry
  lists' = insert_list g c k a (side' m) side'

  lists_alike : (j : ℕ) → lists j ≡ lists' j
  unfolding insert_list
  lists_alike j = path_alike c.nodes k (put_in k a) (named k (side m) side (half g)) (named k (side' m) side' (half g)) c.level
      (λ l b q x d. let e = same l b (omega (arith, q)) in
      λ i. pick (leb (length d) (2 * half g l)) (record { key = min x.key k; addr = last i } ∷ []) (two k (last i) (e i) (half g l) (min x.key k) d))
      (the_root c) j

  sides_alike : (l : ℕ) → l ≤ c.level → side_stores g seq k side lists l ≡ side_stores g seq k side' lists' l
  unfolding side_stores split_store side_store
  sides_alike zero h = refl
  sides_alike (suc l) h =
      let a = sides_alike l (omega (arith, h)) in
      let b = lists_alike (suc l) in
      let d = same (suc l) (omega arith) (omega (arith, h)) in
      λ i. a i ++ pick (leb (length (b i)) (2 * half g (suc l))) []
      (program (d i) (built g (seq + suc l) 0 (only (suc l) (side_half k (half g (suc l)) (b i)))) ∷ [])

  crown_alike : crown_store g seq k side (suc c.level) (lists (suc c.level)) ≡ crown_store g seq k side'
      (suc c.level) (lists' (suc c.level))
  unfolding crown_store side_store
  crown_alike =
      let l = suc c.level in
      let b = lists_alike l in
      let d = same l (omega arith) (omega arith) in
      λ i. pick (fills g l (length (b i))) (program (d i) (built g (seq + l) 0 (only l (side_half k (2 * half g l) (b i)))) ∷ []) []

  height_alike : crown_height g (suc c.level) (lists (suc c.level)) ≡ crown_height g (suc c.level)
      (lists' (suc c.level))
  height_alike = ap (crown_height g (suc c.level)) (lists_alike (suc c.level))

  part_alike : (j : ℕ) → insert_part g c k a (side m) side j ≡ insert_part g c k a (side' m) side' j
  unfolding insert_part crown_part
  part_alike j =
      let l = suc c.level in
      let a = lists_alike j in
      let b = lists_alike l in
      let d = same l (omega arith) (omega arith) in
      λ i. pick (leb j c.level) (path_part k (half g) j (a i)) (pick (fills g l (length (b i)))
      (pick (eqb j l) (path_half k (2 * half g l) (b i)) (pick (eqb j (suc l)) (two k (last i) (d i) (2 * half g l) (following (b i) 0) (b i)) []))
      (pick (eqb j l) (b i) []))

  own_alike : own_stores_at g seq c side m k a ≡ own_stores_at g seq c side' m k a
  unfolding own_stores_at
  own_alike =
      let x = sides_alike c.level (omega arith) in
      λ i. x i ++ (crown_alike i ++ (program (last i) (built g (seq + m) (height_alike i) (λ j. part_alike j i)) ∷ []))

  crest_alike : insert_crest g c side m k a ≡ insert_crest g c side' m k a
  crest_alike = λ i. record { page = last i; level = height_alike i - 1 }

-- ---- by the record of a held image, with pages erased for each level and for each own page
module _ (g : Geometry) (shape : Shape g) (n : ℕ) (img : List ℕ) (held : Held g n img) where
  abbrev c : Chip
  c = chip_of g n img

  side_by_lem : (l : ℕ) → 1 ≤ l → l ≤ count (pages_of g n) c.er → sides_by g n img (opened_in g n img) l ≡ side_page g n c l
  side_by_lem zero b h = absurd (omega (arith, b))
  side_by_lem (suc l) b h = pages_right g (shape_core g shape) n img held l (omega (arith, h))

  module _ (m k a : ℕ) (levels : suc c.level ≤ count (pages_of g n) c.er)
      (some : 1 ≤ m) (most : m ≤ count (pages_of g n) c.er) where
    pub own_by_lem : own_by g n img (opened_in g n img) m k a ≡ own_stores g n (max_seq g n img) c m k a
    unfolding own_stores_at own_stores opened_in
    own_by_lem = ap (λ (d : Chip). own_stores_at g (max_seq g n img) d (sides_by g n img (opened_in g n img)) m k a) (chip_right g (shape_core g shape) n img held)
        ∙ own_alike g (max_seq g n img) c (sides_by g n img (opened_in g n img)) (side_page g n c) m k a
        (λ l b h. side_by_lem l b (omega (arith, h, levels))) (side_by_lem m some most)

    pub crest_by_lem : crest_by g n img (opened_in g n img) m k a ≡ insert_crest g c (side_page g n c) m k a
    unfolding opened_in
    crest_by_lem = ap (λ (d : Chip). insert_crest g d (sides_by g n img (opened_in g n img)) m k a) (chip_right g (shape_core g shape) n img held)
        ∙ crest_alike g (max_seq g n img) c (sides_by g n img (opened_in g n img)) (side_page g n c) m k a
        (λ l b h. side_by_lem l b (omega (arith, h, levels))) (side_by_lem m some most)

  pub page_by_lem : 1 ≤ count (pages_of g n) c.er → page_by g n img (opened_in g n img) 0 ≡ side_page g n c 1
  page_by_lem free = side_by_lem 1 (omega arith) free
