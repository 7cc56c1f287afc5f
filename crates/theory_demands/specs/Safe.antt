-- Request 8, "On other pairs the calls stay memory-safe and program erased pages only": for every geometry, image,
-- record, words, key, address and allowance, what an update with the record does is a list of stores, each program of a
-- page that is then erased. Assumes nothing.
use Rattle.std.specs.Prelude.{◌≡◌, refl, List, [], ◌∷◌, ◌++◌, Bool, ℕ, suc, ltb, length, is_none}
use Rattle.std.proofs.Math.Bool.{true, false}
use Rattle.std.proofs.Math.Dec.{leb}
use Rattle.geometry.specs.declared.Geometry.{Geometry}
use Rattle.geometry.specs.Tests.{pick, ◌&◌}
use Rattle.model.specs.Image.{blocks_of, good_length}
use Rattle.model.specs.Tree.{sought}
use Rattle.model.specs.Stores.{Store, apply_all, programs, erases}
use Rattle.model.specs.Update.{needs, too_high}
use Rattle.model.specs.Calls.{Outcome, refused}
use Rattle.chip_store.specs.Careful.{careful, made_of, Cautious}
use Rattle.chip_store.specs.Cautious.{careful_cautious, cautious_take}
use Rattle.live_words.specs.Words.{words_of}
use Rattle.open_record.specs.declared.Opened.{Opened}
use Rattle.open_record.specs.Opened.{chip_by, standing}
use Rattle.live_beside.specs.Beside.{Held, page_by}
use Rattle.live_beside.specs.Collect.{collect_by}
use Rattle.live_beside.specs.Update.{Returned, returned, Crest, made_by, own_by, crest_by, insert_made, roomless_by, refused_by, insert_by, delete_store_at, delete_crest, delete_made, delete_by}
use Rattle.live_beside.specs.Calls.{held_by, update_with, insert_with, delete_with}

-- the stores that an outcome stands for
pub record Safe (g : Geometry) (img : List ℕ) (o : Outcome) : Type 0 where
  pub stores : List Store
  pub image_is : o.image ≡ apply_all g stores img
  pub cautious : Cautious g stores img
  pub programmed_is : o.programmed ≡ programs stores
  pub erased_is : o.erased ≡ erases stores

safe_refused : (g : Geometry) (img : List ℕ) (answer : ℕ) → Safe g img (refused answer img)
unfolding apply_all Cautious programs erases
safe_refused g img answer = record { stores = []; image_is = refl; cautious = tt; programmed_is = refl; erased_is = refl }

safe_made : (g : Geometry) (n : ℕ) (ss : List Store) (o : Opened) (m : ℕ) (t : Crest) (al : ℕ) (img old : List ℕ)
    → Safe g img (made_by g n ss o m t al img old).outcome
unfolding made_by
safe_made g n ss o m t al img old = record {
  stores = made_of g ss al img;
  image_is = refl;
  cautious = cautious_take g al (careful g ss img) img (careful_cautious g ss img);
  programmed_is = refl;
  erased_is = refl;
}

module _ (g : Geometry) (n : ℕ) (h : Held) (img : List ℕ) where
  insert_by_safe : (k a al : ℕ) → Safe g img (insert_by g n h img k a al).outcome
  unfolding insert_by insert_made
  insert_by_safe k a al = go (ltb g.worn h.at.most) (too_high g (chip_by g img h.at) k) (roomless_by g n h (needs g (chip_by g img h.at) k))
    where
      made : Returned
      made =
          let m = needs g (chip_by g img h.at) k in
          let r = collect_by g n m (suc m) h img in
          made_by g n (r.stores ++ own_by g n r.image r.kept.at m k a) r.kept.at m (crest_by g n r.image r.kept.at m k a) al img
          h.table.words

      go : (x y z : Bool)
          → Safe g img (pick x (refused_by 3 h img) (pick y (refused_by 5 h img)
          (pick z (refused_by 6 h img) made))).outcome
      go true y z = safe_refused g img 3
      go false true z = safe_refused g img 5
      go false false true = safe_refused g img 6
      go false false false =
          let m = needs g (chip_by g img h.at) k in
          let r = collect_by g n m (suc m) h img in
          safe_made g n (r.stores ++ own_by g n r.image r.kept.at m k a) r.kept.at m (crest_by g n r.image r.kept.at m k a) al img
          h.table.words

  delete_by_safe : (k al : ℕ) → Safe g img (delete_by g n h img k al).outcome
  unfolding delete_by delete_made
  delete_by_safe k al = go (ltb g.worn h.at.most) (is_none (sought (chip_by g img h.at) k))
    where
      made : Returned
      made =
          let r = collect_by g n 1 2 h img in
          let o = r.kept.at in
          let page = page_by g n r.image o 0 in
          made_by g n (r.stores ++ (delete_store_at g o.most (chip_by g r.image o) page k ∷ [])) o 1 (delete_crest (chip_by g r.image o) page k) al img
          h.table.words

      go : (x y : Bool) → Safe g img (pick x (refused_by 3 h img) (pick y (refused_by 4 h img) made)).outcome
      go true y = safe_refused g img 3
      go false true = safe_refused g img 4
      go false false =
          let r = collect_by g n 1 2 h img in
          let o = r.kept.at in
          let page = page_by g n r.image o 0 in
          safe_made g n (r.stores ++ (delete_store_at g o.most (chip_by g r.image o) page k ∷ [])) o 1 (delete_crest (chip_by g r.image o) page k) al img
          h.table.words

module _ (g : Geometry) (img old : List ℕ) (o : Opened) where
  safe_with : (rest : Returned) → Safe g img rest.outcome → Safe g img (update_with g img old o rest).outcome
  unfolding update_with
  safe_with rest s = go (good_length g img & leb (words_of g (blocks_of g img)) (length old)) (standing g (blocks_of g img) img o)
    where
      go : (x y : Bool) → Safe g img (pick x (pick y rest (returned (refused 8 img) o old))
          (returned (refused 1 img) o old)).outcome
      go true true = s
      go true false = safe_refused g img 8
      go false y = safe_refused g img 1

  pub insert_safe : (k a al : ℕ) → Safe g img (insert_with g img old o k a al).outcome
  unfolding insert_with
  insert_safe k a al = safe_with _ (insert_by_safe g (blocks_of g img) (held_by g (blocks_of g img) o img old) img k a al)

  pub delete_safe : (k al : ℕ) → Safe g img (delete_with g img old o k al).outcome
  unfolding delete_with
  delete_safe k al = safe_with _ (delete_by_safe g (blocks_of g img) (held_by g (blocks_of g img) o img old) img k al)
