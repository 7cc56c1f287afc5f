-- On an image that holds the rules the code's way to an update of the plain tree is the definition's. Assumes nothing.
use Rattle.std.specs.Prelude.{◌≡◌, refl, List, Bool, true, false, ℕ, ◌<◌, ◌≤◌, is_none}
use Rattle.std.proofs.Math.Path.{ap}
use Rattle.std.proofs.Common.{sym, subst, ◌∙◌}
use borrow.Author.Tests.{ltb-false}
use Rattle.geometry.specs.declared.Geometry.{Geometry}
use Rattle.geometry.specs.declared.Entry.{Entry}
use Rattle.geometry.specs.Geometry.{plain}
use Rattle.geometry.specs.Tests.{pick}
use Rattle.geometry.specs.Bounds.{four_bytes}
use Rattle.model.specs.Image.{Chip, chip_of, pages_of}
use Rattle.model.specs.Tree.{map_of, sought, erased_pages}
use Rattle.model.specs.Stores.{Store}
use Rattle.model.specs.Edit.{put, remove}
use Rattle.model.specs.Calls.{Outcome, made, refused, worn}
use Rattle.model.specs.Plain.{plain_high, plain_needs, plain_insert_stores, plain_insert_rest, plain_leaves, plain_delete_stores, plain_delete_rest, plain_roomless}
use Rattle.chip_store.specs.Careful.{Cautious}
use Rattle.theory_images.specs.Held.{Held}
use Rattle.theory_updates.specs.Made.{along_cautious, made_is, all_made}
use Rattle.plain_levels.specs.Levels.{made_with, plain_insert_by, plain_delete_by}
use Rattle.plain_updates.specs.Laid.{PlainKeeps, PlainUpdated}
use Rattle.plain_updates.proofs.Insertion.{plain_inserted}
use Rattle.plain_updates.proofs.Deletion.{plain_deleted}
use Rattle.plain_updates.specs.By.{plain_delete_same, plain_insert_same}

-- stores that program erased pages alone are all made, as far as the allowance goes
made_same : (g : Geometry) (ss : List Store) (al : ℕ) (img : List ℕ) → Cautious g ss img
    → made_with g ss al img ≡ made g ss al img
unfolding made_with made
made_same g ss al img h = rw (made_is g ss al img h, all_made ss al) refl

-- stores each of which is legal program erased pages alone
updated_cautious : (g : Geometry) (n : ℕ) (old new : List Entry) (img : List ℕ) (ss : List Store)
    → PlainUpdated g n old new img ss → Cautious g ss img
updated_cautious g n old new img ss u = subst (λ (x : List Store). Cautious g x img) (sym u.list_is)
    (along_cautious g n (PlainKeeps g n old) img u.init u.last u.along u.legal)

-- three tests before, the same on both sides
tested : (x y z : Bool) (a b d e f : Outcome) → (x ≡ false → y ≡ false → z ≡ false → e ≡ f)
    → pick x a (pick y b (pick z d e)) ≡ pick x a (pick y b (pick z d f))
tested true y z a b d e f h = refl
tested false true z a b d e f h = refl
tested false false true a b d e f h = refl
tested false false false a b d e f h = h refl refl refl

module _ (n : ℕ) (some : 1 ≤ n) (few : n ≤ 1024) (img : List ℕ) (held : Held plain n img)
    (k al : ℕ) (k_low : k < four_bytes) where
  abbrev c : Chip
  c = chip_of plain n img

  abbrev free : ℕ
  free = erased_pages (pages_of plain n) c

  pub plain_insert_by_lem : (a : ℕ) → a < four_bytes → plain_insert_by plain n img k a al ≡ plain_insert_rest plain n img k a al
  unfolding plain_insert_by plain_insert_rest
  plain_insert_by_lem a a-low = tested (worn plain n img) (plain_high plain c k) (plain_roomless plain n c (plain_needs plain c k)) (refused 3 img) (refused 5 img)
      (refused 6 img) _ _ (λ x y z.
      let room = ltb-false free (plain_needs plain c k) z in
      let ss = plain_insert_stores plain n img k a in
      ap (λ x. made_with plain x al img) (sym (plain_insert_same n img k a held k_low room))
      ∙ made_same plain ss al img (updated_cautious plain n (map_of c) (put k a (map_of c)) img ss
      (plain_inserted n some few img held k a k_low a-low x y room)))

  pub plain_delete_by_lem : plain_delete_by plain n img k al ≡ plain_delete_rest plain n img k al
  unfolding plain_delete_by plain_delete_rest
  plain_delete_by_lem = tested (worn plain n img) (is_none (sought c k)) (plain_roomless plain n c (plain_leaves c k)) (refused 3 img) (refused 4 img)
      (refused 6 img) _ _ (λ x y z.
      let room = ltb-false free (plain_leaves c k) z in
      let ss = plain_delete_stores plain n img k in
      ap (λ x. made_with plain x al img) (sym (plain_delete_same n img k held k_low y room))
      ∙ made_same plain ss al img (updated_cautious plain n (map_of c) (remove k (map_of c)) img ss
      (plain_deleted n some few img held k k_low y x room)))
