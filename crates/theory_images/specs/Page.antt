-- The view of a page from its bytes. Assumes nothing.
use Rattle.std.specs.Prelude.{◌≡◌, List, Bool, false, ℕ, suc, ◌+◌, ◌-◌, ◌*◌, ◌<◌, ◌≤◌, min, replicate}
use Rattle.std.proofs.Math.Path.{refl, ap}
use Rattle.std.proofs.Common.{sym, ◌∙◌, arith, zero-mul, le-leb, leb-true}
use Rattle.std.proofs.Math.Bool.{true}
use Rattle.std.proofs.Math.Nat.{zero-add}
use Rattle.std.proofs.Math.ListN.{get_or-replicate}
use Rattle.geometry.specs.declared.Geometry.{Geometry}
use Rattle.geometry.specs.declared.Entry.{Entry}
use Rattle.geometry.specs.Tests.{pick, ◌&◌, and_left, and_right, and_both}
use Rattle.geometry.specs.Geometry.{page_bytes, halves, code_place, page_base, slots, first_slot, root_slots, in_table}
use Rattle.geometry.specs.Shape.{Core}
use Rattle.model.specs.Bytes.{byte_at, u32_at, blank, erased, seq_at, height_at, count_at, entries_at, node_place, node_count, node_at}
use Rattle.model.specs.Codes.{codes_fit}
use Rattle.model.specs.Image.{pages_of, seq_of, height_of, max_seq, root_score, root_of, chip_of}
use Rattle.theory_chips.specs.Erase.{blank_node}
use Rattle.theory_images.specs.Bytes.{Copy, copy_byte, copy_u32, copy_blank, copy_entries, blank_all, blank_get}
use Rattle.theory_images.specs.Codes.{copy_codes}
use Rattle.theory_images.specs.Views.{View, no_view, Views, top_of, root_at, chip}

pub table_in_lem : (g : Geometry) (l : ℕ) → in_table g l ≡ true → (1 ≤ l) × (l ≤ g.top)
unfolding in_table
table_in_lem g l h = (leb-true 1 l (and_left _ _ h), leb-true l g.top (and_right _ _ h))

pub in_table_lem : (g : Geometry) (l : ℕ) → 1 ≤ l → l ≤ g.top → in_table g l ≡ true
unfolding in_table
in_table_lem g l h k = and_both _ _ (le-leb 1 l h) (le-leb l g.top k)

-- the node at level l of the page that begins at byte b
unfoldable pub node_from : Geometry → List ℕ → ℕ → ℕ → List Entry
node_from g img b l = entries_at img (b + 8 * first_slot g l) (pick (in_table g l) (min (byte_at img (b + g.main + 4 + l)) (suc (root_slots g l))) 0)

-- 255 after the codes, and the codes fit, of the page that begins at byte b
unfoldable pub tail_from : Geometry → List ℕ → ℕ → Bool
tail_from g img b = blank img (b + code_place g (halves g)) (page_bytes g - code_place g (halves g)) & codes_fit g img b (halves g)

unfoldable pub view_from : Geometry → List ℕ → ℕ → View
view_from g img b = record {
  er = blank img b (page_bytes g);
  seq = pick (blank img b (page_bytes g)) 0 (u32_at img (b + g.main));
  height = pick (blank img b (page_bytes g)) 0 (byte_at img (b + g.main + 4));
  tail = pick (blank img b (page_bytes g)) true (tail_from g img b);
  node = node_from g img b;
}

abbrev pub views : Geometry → List ℕ → Views
views g img q = view_from g img (page_base g q)

-- the views are what the definitions read
pub view_chip : (g : Geometry) (n : ℕ) (img : List ℕ) → chip (pages_of g n) (views g img) ≡ chip_of g n img
unfolding view_from node_from root_at erased node_at node_place node_count count_at height_of seq_of height_at seq_at root_of root_score
view_chip g n img = refl

pub view_max : (g : Geometry) (n : ℕ) (img : List ℕ) → top_of (pages_of g n) (views g img) ≡ max_seq g n img
unfolding view_from top_of max_seq seq_of erased seq_at
view_max g n img = refl

module _ (g : Geometry) (core : Core g) where
  -- what is read of a page hangs on the page's bytes alone
  pub copy_node : (a : List ℕ) (p : ℕ) (b : List ℕ) (q : ℕ) → Copy a p b q (page_bytes g) → (l : ℕ)
      → node_from g b q l ≡ node_from g a p l
  unfolding node_from root_slots entries_at
  copy_node a p b q c l = go (in_table g l) refl
    where
      at : (1 ≤ l) × (l ≤ g.top)
          → entries_at b (q + 8 * first_slot g l) (min (byte_at b (q + g.main + 4 + l)) (suc (slots g - first_slot g l)))
          ≡ entries_at a
          (p + 8 * first_slot g l) (min (byte_at a (p + g.main + 4 + l)) (suc (slots g - first_slot g l)))
      at h =
          let s = core.spare_low in
          let r = core.room l h.1 in
          let m = core.main_is in
          let e : byte_at b (q + g.main + 4 + l) ≡ byte_at a (p + g.main + 4 + l) =
          copy_byte a p b q (page_bytes g) c (g.main + 4 + l)
          (p + g.main + 4 + l) (q + g.main + 4 + l) (omega arith) (omega arith) (omega (arith, s, h)) in
          rw e (copy_entries a p b q (page_bytes g) c (min (byte_at a (p + g.main + 4 + l)) (suc (slots g - first_slot g l))) (8 * first_slot g l)
          (p + 8 * first_slot g l) (q + 8 * first_slot g l) refl refl (omega (arith, s, r, m)))

      go : (t : Bool) → in_table g l ≡ t
          → entries_at b (q + 8 * first_slot g l) (pick t
          (min (byte_at b (q + g.main + 4 + l)) (suc (slots g - first_slot g l))) 0) ≡ entries_at a
          (p + 8 * first_slot g l) (pick t (min (byte_at a (p + g.main + 4 + l)) (suc (slots g - first_slot g l))) 0)
      go true e = at (table_in_lem g l e)
      go false e = refl

  copy_tail : (a : List ℕ) (p : ℕ) (b : List ℕ) (q : ℕ) → Copy a p b q (page_bytes g) → tail_from g b q ≡ tail_from g a p
  unfolding tail_from
  copy_tail a p b q c =
      let r = core.code_room in
      rw (
        copy_blank a p b q (page_bytes g) c (page_bytes g - code_place g (halves g)) (code_place g (halves g)) (p + code_place g (halves g))
            (q + code_place g (halves g)) refl refl (omega (arith, r)),
        copy_codes g a p b q (page_bytes g) c (halves g) (omega arith) r,
      )

  pub copy_view : (a : List ℕ) (p : ℕ) (b : List ℕ) (q : ℕ) → Copy a p b q (page_bytes g)
      → view_from g b q ≡ view_from g a p
  unfolding view_from
  copy_view a p b q c =
      let s = core.spare_low in
      let e₁ : blank b q (page_bytes g) ≡ blank a p (page_bytes g) =
      copy_blank a p b q (page_bytes g) c (page_bytes g) 0 p q (omega arith) (omega arith)
      (omega arith) in
      let e₂ : u32_at b (q + g.main) ≡ u32_at a (p + g.main) =
      copy_u32 a p b q (page_bytes g) c g.main (p + g.main) (q + g.main) refl refl
      (omega (arith, s)) in
      let e₃ : byte_at b (q + g.main + 4) ≡ byte_at a (p + g.main + 4) =
      copy_byte a p b q (page_bytes g) c (g.main + 4) (p + g.main + 4)
      (q + g.main + 4) (omega arith) (omega arith) (omega (arith, s)) in
      let e₄ : tail_from g b q ≡ tail_from g a p = copy_tail a p b q c in
      λ i. record {
        er = e₁ i;
        seq = pick (e₁ i) 0 (e₂ i);
        height = pick (e₁ i) 0 (e₃ i);
        tail = pick (e₁ i) true (e₄ i);
        node =
            λ l. copy_node a p b q c l i;
      }

  -- an erased page
  bare : List ℕ
  bare = replicate (page_bytes g) 255

  bare_at : (k : ℕ) → k < page_bytes g → byte_at bare k ≡ 255
  unfolding bare
  bare_at k h = get_or-replicate {A = ℕ} (page_bytes g) k 255 0 h

  bare_node : (l : ℕ) → node_from g bare 0 l ≡ blank_node g l
  unfolding bare node_from blank_node node_at node_place node_count count_at page_base
  bare_node l = ap (λ b. node_from g bare b l) (sym (zero-mul (page_bytes g)))

  bare_view : view_from g bare 0 ≡ no_view g
  unfolding view_from
  bare_view = let e : blank bare 0 (page_bytes g) ≡ true =
      blank_all bare (page_bytes g) 0 (λ k h. rw zero-add (bare_at k h)) in
      λ i. record {
        er = e i;
        seq = pick (e i) 0 (u32_at bare (0 + g.main));
        height = pick (e i) 0 (byte_at bare (0 + g.main + 4));
        tail = pick (e i) true (tail_from g bare 0);
        node = λ l. bare_node l i;
      }

  pub view_erased : (img : List ℕ) (b : ℕ) → ((k : ℕ) → k < page_bytes g → byte_at img (b + k) ≡ 255)
      → view_from g img b ≡ no_view g
  view_erased img b h = copy_view bare 0 img b (λ k q. h k q ∙ sym (rw zero-add (bare_at k q))) ∙ bare_view

  pub view_none : (img : List ℕ) (b : ℕ) → (view_from g img b).er ≡ true → view_from g img b ≡ no_view g
  unfolding view_from
  view_none img b h = view_erased img b (λ k q. blank_get img _ _ (b + k) h (omega arith) (omega (arith, q)))
