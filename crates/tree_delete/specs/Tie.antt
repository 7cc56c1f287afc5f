-- The store of the job of removing a key is the definition's. Assumes nothing.
use Prim.Native.Nat.{ℕ, zero, suc, ◌-◌, ◌<◌, ◌≤◌}
use Rattle.std.specs.Prelude.{Bool, ◌≡◌}
use Rattle.std.proofs.Math.Bool.{true, false}
use Rattle.std.proofs.Math.Path.{refl, sym, ap}
use Rattle.std.proofs.Common.{◌∙◌, arith}
use mathlib.Core.List.{List, [], ◌∷◌}
use Rattle.std.proofs.Math.Dec.{eqb}
use Rattle.std.proofs.Math.ListN.{take}
use borrow.Author.Tests.{eq-eqb, ne_eqb, le-leb, lt-leb, eqb-true, eqb-false}
use Rattle.geometry.specs.declared.Geometry.{Geometry}
use Rattle.geometry.specs.declared.Entry.{Entry}
use Rattle.geometry.specs.Geometry.{page_bytes}
use Rattle.geometry.specs.Tests.{pick, and_true, and_false}
use Rattle.geometry.specs.Bounds.{longest_page}
use Rattle.model.specs.Bytes.{node_at}
use Rattle.model.specs.Image.{Chip, Nodes}
use Rattle.model.specs.Page.{built, sealed, only}
use Rattle.model.specs.Stores.{program}
use Rattle.model.specs.Edit.{on_path, collapse}
use Rattle.model.specs.Update.{delete_list, delete_top, delete_part}
use Rattle.chip_page.specs.Page.{blanks, laid_level, laid, bare}
use Rattle.chip_page.specs.Levels.{laid_more, laid_agree, page_is}
use Rattle.chip_store.specs.declared.Budget.{Budget}
use Rattle.tree_split.specs.declared.Change.{Change}
use Rattle.tree_split.specs.declared.Job.{Job}
use Rattle.tree_split.specs.Step.{leaf_of, name_of, part_of}
use Rattle.tree_path.specs.Edit.{changed, path_of, parts_of}
use Rattle.tree_path.specs.Paths.{path_top}
use Rattle.chip_read.specs.Chip.{chip_with, naming}
use Rattle.tree_root.specs.declared.Own.{Own}
use Rattle.tree_root.specs.Crown.{path_store}
use Rattle.tree_root.specs.Owns.{Owns}
use Rattle.open_record.specs.declared.Opened.{Opened}
use Rattle.open_record.specs.Opened.{level_by, chip_by}
use Rattle.live_beside.specs.Beside.{page_from, next_by, page_by}
use Rattle.live_beside.specs.Update.{delete_store_at, delete_crest}
use Rattle.tree_delete.specs.Own.{top_store, root_store, store_by, top_by, Removes}

-- a root that does not fall keeps its entries
keeps : (r : Nodes) (l : ℕ) (c : List Entry) → ((collapse r l c).level ≤ l) ×
    ((collapse r l c).level ≡ l → (collapse r l c).list ≡ c)
unfolding collapse
keeps r zero c = (omega arith, λ e. refl)
keeps r (suc l) [] = (omega arith, λ e. refl)
keeps r (suc l) (x ∷ []) =
    let h = keeps r l (r x.addr (suc l)) in (
      omega (arith, h.0),
      λ e. absurd (let z : (collapse r l (r x.addr (suc l))).level ≡ suc l = e in
          omega (arith, h.0)),
    )
keeps r (suc l) (x ∷ y ∷ c) = (omega arith, λ e. refl)

-- a root that is left stands no higher
pub crest_low : (c : Chip) (page k : ℕ) → c.level < 255 → (delete_crest c page k).level < 255
unfolding delete_top
crest_low c page k h =
    let w = (keeps c.nodes c.level (delete_list c k page (suc c.level))).0 in
    omega (arith, w)

module _ (g : Geometry) (c : Chip) (k n : ℕ) where
  -- where the root stays
  module _ (e : (delete_top c k n).level ≡ c.level) where
    list_is : (delete_top c k n).list ≡ delete_list c k n (suc c.level)
    unfolding delete_top
    list_is = (keeps c.nodes c.level (delete_list c k n (suc c.level))).1 e

    part_low : (x : ℕ) → x ≤ c.level → delete_part c k n x ≡ delete_list c k n x
    unfolding delete_part
    part_low x h = rw (
      ne_eqb x (suc (delete_top c k n).level) (λ q. let z : x ≡ suc (delete_top c k n).level = q in
          absurd (omega (arith, e))),
      eq-eqb (delete_top c k n).level c.level e,
      and_true,
      le-leb x c.level h,
    )

    part_top : delete_part c k n (suc c.level) ≡ delete_list c k n (suc c.level)
    unfolding delete_part
    part_top = rw (eq-eqb (suc c.level) (suc (delete_top c k n).level)
        (let q : suc c.level ≡ suc (delete_top c k n).level = omega (arith, e) in q)) list_is

    part_above : (x : ℕ) → suc c.level < x → delete_part c k n x ≡ []
    unfolding delete_part
    part_above x h = rw (
      ne_eqb x (suc (delete_top c k n).level) (λ q. let z : x ≡ suc (delete_top c k n).level = q in
          absurd (omega (arith, e))),
      lt-leb x c.level (omega arith),
      eq-eqb (delete_top c k n).level c.level e,
      and_true,
    )

  -- where the tree shrinks
  part_only : ((delete_top c k n).level ≡ c.level → ⊥) → (x : ℕ)
      → delete_part c k n x ≡ only (suc (delete_top c k n).level) (delete_top c k n).list x
  unfolding delete_part
  part_only h x = rw (ne_eqb (delete_top c k n).level c.level h, and_false)

module _ (g : Geometry) (i : List ℕ) (at seq l p k : ℕ) (j : Job) (pj : Removes at seq k j) where
  list_of : (x : ℕ) → path_of g j i l (naming p) x ≡ delete_list (chip_with g i l p) k j.page x
  unfolding path_of delete_list leaf_of name_of
  list_of x =
      ap (λ (y : ℕ). on_path (node_at g i) y (leaf_of j.change y) (name_of g j.change j) l (naming p) x) pj.key
      ∙ ap (λ (v : Change). on_path (node_at g i) k (leaf_of v k) (name_of g v j) l (naming p) x) pj.change

  top_of : changed g j i l (naming p) ≡ delete_list (chip_with g i l p) k j.page (suc l)
  unfolding changed path_of
  top_of = sym (path_top (node_at g i) j.key (leaf_of j.change j.key) (name_of g j.change j) l (naming p))
      ∙ list_of (suc l)

  part_of_lem : (x : ℕ) → parts_of g j i l (naming p) x ≡ delete_list (chip_with g i l p) k j.page x
  unfolding parts_of part_of
  part_of_lem x = ap (λ (v : Change). part_of g v j.key x (path_of g j i l (naming p) x)) pj.change ∙ list_of x

  c : Chip
  c = chip_with g i l p

  stays : page_bytes g ≤ longest_page → (delete_top c k j.page).level ≡ l
      → take (page_bytes g) (sealed g (bare g (suc l) (g.top - suc l)
      (laid_level g (laid g (parts_of g j i l (naming p)) l (blanks longest_page)) (suc l) (changed g j i l (naming p)))) (suc j.seq) (suc l))
      ≡ built g (suc seq) (suc (delete_top c k j.page).level) (delete_part c k j.page)
  unfolding c
  stays le e =
      let low : laid g (parts_of g j i l (naming p)) l (blanks longest_page) ≡ laid g (delete_part (chip_with g i l p) k j.page) l (blanks longest_page) =
      laid_agree g (parts_of g j i l (naming p)) (delete_part (chip_with g i l p) k j.page) l (blanks longest_page)
      (λ x a h. part_of_lem x ∙ sym (part_low g (chip_with g i l p) k j.page e x h)) in
      let up : laid_level g (laid g (parts_of g j i l (naming p)) l (blanks longest_page)) (suc l)
      (changed g j i l (naming p)) ≡ laid g (delete_part (chip_with g i l p) k j.page) (suc l) (blanks longest_page) =
      (λ z. laid_level g (low z) (suc l) ((top_of ∙ sym (part_top g (chip_with g i l p) k j.page e)) z)) ∙ laid_more g
      (delete_part (chip_with g i l p) k j.page) l (blanks longest_page) in
      (λ z. take (page_bytes g) (sealed g (bare g (suc l) (g.top - suc l) (up z)) (suc (pj.number z)) (suc l)))
      ∙ page_is g (delete_part (chip_with g i l p) k j.page) (suc l) (suc seq) (suc l) (blanks longest_page) _ refl refl
      le (part_above g (chip_with g i l p) k j.page e)
      ∙ sym (λ z. built g (suc seq) (suc (e z)) (delete_part (chip_with g i l p) k j.page))

  falls : collapse (node_at g i) l (changed g j i l (naming p)) ≡ delete_top c k j.page
  unfolding c delete_top
  falls = ap (λ (es : List Entry). collapse (node_at g i) l es) top_of

  store_is : page_bytes g ≤ longest_page → store_by g j l (naming p) i ≡ program j.page
      (built g (suc seq) (suc (delete_top c k j.page).level) (delete_part c k j.page))
  unfolding store_by root_store path_store top_store c
  store_is le = go (eqb (collapse (node_at g i) l (changed g j i l (naming p))).level l) refl
    where
      go : (t : Bool) → eqb (collapse (node_at g i) l (changed g j i l (naming p))).level l ≡ t
          → pick t
          (program j.page (take (page_bytes g) (sealed g
          (bare g (suc l) (g.top - suc l) (laid_level g (laid g (parts_of g j i l (naming p)) l (blanks longest_page))
          (suc l) (changed g j i l (naming p)))) (suc j.seq) (suc l))))
          (program j.page (built g (suc j.seq) (suc (collapse (node_at g i) l (changed g j i l (naming p))).level)
          (only (suc (collapse (node_at g i) l (changed g j i l (naming p))).level) (collapse (node_at g i) l (changed g j i l (naming p))).list)))
          ≡ program j.page (built g (suc seq) (suc (delete_top c k j.page).level) (delete_part c k j.page))
      go true q = ap (λ (bs : List ℕ). program j.page bs) (stays le (sym (λ z. (falls z).level) ∙ eqb-true _ _ q))
      go false q =
          (λ z. program j.page (built g (suc (pj.number z)) (suc (falls z).level) (only (suc (falls z).level) (falls z).list)))
          ∙ sym (λ z. program j.page (built g (suc seq) (suc (delete_top c k j.page).level)
          (λ x. part_only g c k j.page (λ r. eqb-false _ _ q ((λ z. (falls z).level) ∙ r)) x z)))

  own_is : page_bytes g ≤ longest_page → store_by g j l (naming p) i ≡ delete_store_at g seq (chip_with g i l p) at k
  unfolding delete_store_at c
  own_is le = store_is le ∙ (λ z. program (pj.page z) (built g (suc seq) (suc (delete_top c k (pj.page z)).level) (delete_part c k (pj.page z))))

  crest_is : top_by g j l (naming p) i ≡ delete_crest (chip_with g i l p) at k
  unfolding c
  crest_is = (λ z. record { page = j.page; level = (falls z).level })
      ∙ (λ z. record { page = pj.page z; level = (delete_top c k (pj.page z)).level })

-- by the record
pub deleted : (g : Geometry) (n : ℕ) (i : List ℕ) (o : Opened) (k : ℕ) (j : Job) (b : Budget) (r : Own) (then : List ℕ)
    (l : ℕ)
    → Owns g (store_by g j l (naming o.root) i ∷ []) (top_by g j l (naming o.root) i) b r i then
    → l ≡ level_by g o → Removes (next_by g n o) o.most k j → page_bytes g ≤ longest_page
    → Owns g (delete_store_at g o.most (chip_by g i o) (page_by g n i o 0) k ∷ []) (delete_crest (chip_by g i o)
    (page_by g n i o 0) k) b r i then
unfolding page_from
deleted g n i o k j b r then l run eh pj le =
    let e : store_by g j l (naming o.root) i ≡ delete_store_at g o.most (chip_with g i l o.root) (next_by g n o) k =
    own_is g i (next_by g n o) o.most l o.root k j pj le in
    let t : top_by g j l (naming o.root) i ≡ delete_crest (chip_with g i l o.root) (next_by g n o) k =
    crest_is g i (next_by g n o) o.most l o.root k j pj in
    rw (e, t, eh) at run

pub ruleset tie_laws = (deleted)
