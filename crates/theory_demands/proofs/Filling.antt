-- Request 10's proof: after n insertions with x pages beyond them the tree has x + height − 1 nodes below its root,
-- each at least half full, and half-full nodes are few. Assumes nothing.
use Rattle.std.specs.Prelude.{◌≡◌, None, is_none}
use Rattle.std.proofs.Math.Path.{refl, subst}
use Rattle.std.proofs.Common.{ap, sym, ◌∙◌, inl}
use mathlib.Core.List.{List, [], ◌∷◌}
use Prim.Native.Nat.{ℕ, suc, ◌+◌, ◌-◌, ◌<◌}
use native.Mathlib.Omega.{arith}
use Rattle.std.proofs.Math.ListN.{length}
use Rattle.geometry.specs.declared.Geometry.{Geometry}
use Rattle.geometry.specs.Tests.{bit}
use Rattle.geometry.specs.Shape.{Shape}
use Rattle.model.specs.Image.{blocks_of, Chip, chip_of}
use Rattle.model.specs.Tree.{find}
use Rattle.model.specs.Stores.{programs}
use Rattle.model.specs.Collect.{collect_stores}
use Rattle.model.specs.Update.{needs}
use Rattle.chip_store.specs.Runs.{programs_append}
use Rattle.theory_trees.specs.Splits.{put_size}
use Rattle.theory_chips.specs.Insertion.{Fuller}
use Rattle.theory_demands.specs.Inserts.{Item, done, chip_at, own_pages, splits_at, grows_at, Finished, filled_by, beyond, splits_and_growths}
use Rattle.theory_demands.specs.Words.{Ready, map_at}
use Rattle.theory_demands.specs.Bridges.{ready_rises}
use Rattle.theory_demands.specs.Proofs.{insert_fuller, insert_blocks}
use Rattle.theory_demands.proofs.Demands.{insert_done}
use Rattle.theory_demands.specs.Demands.{insert_own}
use Rattle.geometry.specs.Bounds.{four_bytes}
use Rattle.theory_demands.specs.Filling.{Stands}

module _ (g : Geometry) (shape : Shape g) where
  own_is : (img : List ℕ) (x : Item) → Ready g img → x.key < four_bytes → x.addr < four_bytes → (done g img x).answer ≡ 0
      → own_pages g img x ≡ needs g (chip_at g img) x.key
  own_is img x h k a e =
      let o = insert_own g shape img h x.key k x.addr x.allowance a (inl e) in
      let p = ap programs o.list_is ∙ programs_append
      (collect_stores g (blocks_of g img) (needs g (chip_at g img) x.key) (suc (needs g (chip_at g img) x.key)) img) o.own in
      omega (arith, p, o.programs_are)

  needs_are : (c : Chip) (k : ℕ) → needs g c k ≡ suc (splits_at g c k + grows_at g c k)
  unfolding needs
  needs_are c k = refl

  -- X is the splits and growths together
  pub beyond_is : (xs : List Item) (img : List ℕ) → Ready g img → Finished g xs img
      → beyond g xs img ≡ splits_and_growths g xs img
  unfolding Finished beyond splits_and_growths
  beyond_is [] img h f = refl
  beyond_is (x ∷ xs) img h f =
      let next = insert_done g shape img h x.key f.0 x.addr x.allowance f.1 f.3 in
      let i = beyond_is xs (done g img x).image next.ready f.4 in
      let o = own_is img x h f.0 f.1 f.3 in
      let n = needs_are (chip_at g img) x.key in
      omega (arith, i, o, n)

  one_more : (img : List ℕ) (x : Item) (n y : ℕ) → x.key < four_bytes → x.addr < four_bytes
      → find x.key (map_at g img) ≡ None
      → (done g img x).answer ≡ 0 → (Stands g shape) img n y → (Stands g shape) (done g img x).image (suc n) (own_pages g img x - 1 + y)
  one_more img x n y k a none' e h =
      let next = insert_done g shape img h.ready x.key k x.addr x.allowance a e in
      let f = subst (λ m. Fuller g (needs g (chip_at g img) x.key) (chip_at g img) (chip_of g m (done g img x).image))
      (sym (insert_blocks g shape img h.ready x.key k x.addr x.allowance e))
      (insert_fuller g shape img h.ready x.key k x.addr x.allowance a e) in
      let s = put_size x.key x.addr four_bytes (map_at g img) (ready_rises g shape img h.ready) in
      let b = ap (λ o. bit (is_none o)) none' in
      let l = ap length next.map_is in
      let o = own_is img x h.ready k a e in
      let m = needs_are (chip_at g img) x.key in
      record {
        ready = next.ready;
        pairs = omega (arith, l, s, b, h.pairs);
        nodes = (let q = f.nodes_are in let r = h.nodes in omega (arith, q, r, o, m));
        filled = f.filled h.filled;
      }

  pub stands_after : (xs : List Item) (img : List ℕ) (n y : ℕ) → (Stands g shape) img n y → Finished g xs img
      → (Stands g shape) (filled_by g xs img) (n + length xs) (y + beyond g xs img)
  unfolding Finished filled_by beyond
  stands_after [] img n y h f = let a : n ≡ n + 0 = omega arith in let b : y ≡ y + 0 = omega arith in
      subst (λ m. Stands g shape img m (y + 0)) a (subst (λ m. Stands g shape img n m) b h)
  stands_after (x ∷ xs) img n y h f =
      let i = stands_after xs (done g img x).image (suc n) (own_pages g img x - 1 + y) (one_more img x n y f.0 f.1 f.2 f.3 h) f.4 in
      let a : suc n + length xs ≡ n + suc (length xs) = omega arith in
      let b : own_pages g img x - 1 + y + beyond g xs (done g img x).image ≡ y + (own_pages g img x - 1 + beyond g xs (done g img x).image) = omega arith in
      subst (λ m. Stands g shape (filled_by g xs (done g img x).image) m (y + (own_pages g img x - 1 + beyond g xs (done g img x).image))) a
      (subst (λ m. Stands g shape (filled_by g xs (done g img x).image) (suc n + length xs) m) b i)
