-- The stores of the job of putting a key are the definition's. Assumes nothing.
use Prim.Native.Nat.{ℕ, zero, suc, ◌+◌, ◌-◌, ◌≤◌}
use Rattle.std.specs.Prelude.{◌≡◌, List, [], ◌∷◌, ◌++◌, leb}
use Rattle.std.proofs.Math.Path.{refl, sym, ap}
use Rattle.std.proofs.Common.{◌∙◌, arith}
use Rattle.geometry.specs.declared.Geometry.{Geometry}
use Rattle.geometry.specs.declared.Entry.{Entry}
use Rattle.geometry.specs.Geometry.{half}
use Rattle.geometry.specs.Tests.{pick}
use Rattle.model.specs.Bytes.{node_at}
use Rattle.model.specs.Page.{built}
use Rattle.model.specs.Stores.{program}
use Rattle.model.specs.Edit.{put_in, named, path_part, on_path}
use Rattle.model.specs.Update.{insert_list, crown_part, crown_store, crown_height, insert_part, side_store, split_store, side_stores}
use Rattle.chip_store.specs.declared.Budget.{Budget}
use Rattle.tree_split.specs.declared.Change.{Change}
use Rattle.tree_split.specs.declared.Job.{Job}
use Rattle.tree_split.specs.Step.{side_of, leaf_of, name_of, part_of, stores_of}
use Rattle.tree_path.specs.Edit.{changed, path_of, parts_of, sides_up}
use Rattle.tree_path.specs.Paths.{path_top, path_agree}
use Rattle.tree_root.specs.declared.Own.{Own}
use Rattle.tree_root.specs.Crown.{top_part}
use Rattle.tree_root.specs.Owns.{Owns}
use Rattle.chip_read.specs.Chip.{chip_with, naming}
use Rattle.open_record.specs.declared.Opened.{Opened}
use Rattle.open_record.specs.Opened.{level_by}
use Rattle.live_beside.specs.Update.{own_stores_at, insert_crest, sides_by, own_by, crest_by}
use Rattle.tree_insert.specs.Own.{crown_parts, stores_by, top_by, sides_on, Puts}

-- what is made of a level depends on the page of that level's other half alone
named_agree : (g : Geometry) (k₁ k₂ n₁ n₂ : ℕ) (f h : ℕ → ℕ) (x : ℕ) (e : Entry) (c : List Entry) → k₁ ≡ k₂ → n₁ ≡ n₂
    → f x ≡ h x
    → named k₁ n₁ f (half g) x e c ≡ named k₂ n₂ h (half g) x e c
named_agree g k₁ k₂ n₁ n₂ f h x e c ek en ef = rw (ek, en, ef)

split_agree : (g : Geometry) (s₁ s₂ k₁ k₂ l : ℕ) (f h : ℕ → ℕ) (xs ys : List Entry) → s₁ ≡ s₂ → k₁ ≡ k₂ → xs ≡ ys
    → f l ≡ h l → split_store g s₁ k₁ f l xs ≡ split_store g s₂ k₂ h l ys
unfolding split_store side_store
split_agree g s₁ s₂ k₁ k₂ l f h xs ys es ek ex ef = rw (es, ek, ex, ef)

crown_agree : (g : Geometry) (s₁ s₂ k₁ k₂ l : ℕ) (f h : ℕ → ℕ) (xs ys : List Entry) → s₁ ≡ s₂ → k₁ ≡ k₂ → xs ≡ ys
    → f l ≡ h l → crown_store g s₁ k₁ f l xs ≡ crown_store g s₂ k₂ h l ys
unfolding crown_store side_store
crown_agree g s₁ s₂ k₁ k₂ l f h xs ys es ek ex ef = rw (es, ek, ex, ef)

part_agree : (g : Geometry) (k₁ k₂ n₁ n₂ l : ℕ) (f h : ℕ → ℕ) (xs ys : List Entry) (m : ℕ) → k₁ ≡ k₂ → n₁ ≡ n₂ → xs ≡ ys
    → f l ≡ h l → crown_part g k₁ n₁ f l xs m ≡ crown_part g k₂ n₂ h l ys m
unfolding crown_part
part_agree g k₁ k₂ n₁ n₂ l f h xs ys m ek en ex ef = rw (ek, en, ex, ef)

-- the path's lists
lists : Geometry → List ℕ → (ℕ → ℕ) → ℕ → ℕ → ℕ → ℕ → ℕ → ℕ → List Entry
lists g i side l p m k a x = insert_list g (chip_with g i l p) k a (side m) side x

module _ (g : Geometry) (i : List ℕ) (side : ℕ → ℕ) (seq l p m k a : ℕ) (j : Job) (pj : Puts side seq l m k a j) where
  name_is : (x : ℕ) (e : Entry) (c : List Entry) → 1 ≤ x → x ≤ l → name_of g j.change j x e c ≡ named k (side m) side
      (half g) x e c
  unfolding name_of
  name_is x e c lo hi =
      ap (λ (v : Change). name_of g v j x e c) pj.change
      ∙ named_agree g j.key k j.page (side m) (side_of j) side x e c pj.key pj.page (pj.sides x lo (omega arith))

  list_is : (x : ℕ) → path_of g j i l (naming p) x ≡ lists g i side l p m k a x
  unfolding path_of lists insert_list leaf_of
  list_is x =
      ap (λ (y : ℕ). on_path (node_at g i) y (leaf_of j.change y) (name_of g j.change j) l (naming p) x) pj.key
      ∙ ap (λ (v : Change). on_path (node_at g i) k (leaf_of v k) (name_of g j.change j) l (naming p) x) pj.change
      ∙ path_agree (node_at g i) k (put_in k a) (name_of g j.change j) (named k (side m) side (half g)) l (naming p) x name_is

  top_is : changed g j i l (naming p) ≡ lists g i side l p m k a (suc l)
  unfolding changed path_of
  top_is = sym (path_top (node_at g i) j.key (leaf_of j.change j.key) (name_of g j.change j) l (naming p))
      ∙ list_is (suc l)

  stores_is : (x : ℕ) → 1 ≤ x → x ≤ l → stores_of g j.change j x (path_of g j i l (naming p) x) ≡ split_store g seq k
      side x (lists g i side l p m k a x)
  unfolding stores_of
  stores_is x lo hi =
      ap (λ (v : Change). stores_of g v j x (path_of g j i l (naming p) x)) pj.change
      ∙ split_agree g j.seq seq j.key k x (side_of j) side (path_of g j i l (naming p) x)
      (lists g i side l p m k a x) pj.number pj.key (list_is x) (pj.sides x lo (omega arith))

  sides_is : (x : ℕ) → x ≤ l → sides_up g j (path_of g j i l (naming p)) x ≡ side_stores g seq k side
      (lists g i side l p m k a) x
  unfolding sides_up side_stores
  sides_is zero h = refl
  sides_is (suc x) h = λ z. sides_is x (omega arith) z ++ stores_is (suc x) (omega arith) h z

  low_is : (x : ℕ) → parts_of g j i l (naming p) x ≡ path_part k (half g) x (lists g i side l p m k a x)
  unfolding parts_of part_of
  low_is x =
      ap (λ (v : Change). part_of g v j.key x (path_of g j i l (naming p) x)) pj.change
      ∙ (λ z. path_part (pj.key z) (half g) x (list_is x z))

  part_is : (x : ℕ) → crown_parts g j i l (naming p) x ≡ insert_part g (chip_with g i l p) k a (side m) side x
  unfolding crown_parts insert_part top_part lists
  part_is x = λ z. pick (leb x l) (low_is x z)
      (part_agree g j.key k j.page (side m) (suc l) (side_of j) side (changed g j i l (naming p))
      (lists g i side l p m k a (suc l)) x pj.key pj.page top_is (pj.sides (suc l) (omega arith) (omega arith)) z)

  own_is : stores_by g j i (seq + m) l (naming p) ≡ own_stores_at g seq (chip_with g i l p) side m k a
  unfolding stores_by own_stores_at lists
  own_is = λ z.
      sides_is l (omega arith) z
      ++ (crown_agree g j.seq seq j.key k (suc l) (side_of j) side (changed g j i l (naming p))
      (lists g i side l p m k a (suc l)) pj.number pj.key top_is (pj.sides (suc l) (omega arith) (omega arith)) z
      ++ (program (pj.page z) (built g (seq + m) (crown_height g (suc l) (top_is z)) (λ x. part_is x z)) ∷ []))

  crest_is : top_by g j i l (naming p) ≡ insert_crest g (chip_with g i l p) side m k a
  unfolding lists
  crest_is = λ z. record { page = pj.page z; level = crown_height g (suc l) (top_is z) - 1 }

-- by the record
pub inserted : (g : Geometry) (n : ℕ) (i : List ℕ) (o : Opened) (m k a : ℕ) (j : Job) (b : Budget) (r : Own)
    (then : List ℕ) (last l : ℕ)
    → Owns g (stores_by g j i last l (naming o.root)) (top_by g j i l (naming o.root)) b r i then
    → last ≡ o.most + m → l ≡ level_by g o → Puts (sides_on g n i o) o.most l m k a j
    → Owns g (own_by g n i o m k a) (crest_by g n i o m k a) b r i then
unfolding sides_on
inserted g n i o m k a j b r then last l run el eh pj =
    let e : stores_by g j i (o.most + m) l (naming o.root) ≡ own_stores_at g o.most (chip_with g i l o.root) (sides_by g n i o) m k a =
    own_is g i (sides_by g n i o) o.most l o.root m k a j pj in
    let t : top_by g j i l (naming o.root) ≡ insert_crest g (chip_with g i l o.root) (sides_by g n i o) m k a =
    crest_is g i (sides_by g n i o) o.most l o.root m k a j pj in
    rw (e, t, eh) at (rw el at run)

pub ruleset tie_laws = (inserted)
