-- An update on a sound image leaves a sound image of the same length, whatever its answer and its allowance. Assumes
-- nothing.
use Rattle.std.specs.Prelude.{◌≡◌, refl, List, Bool, true, false, ℕ, length, take, is_none}
use Rattle.geometry.specs.declared.Geometry.{Geometry}
use Rattle.geometry.specs.Tests.{pick}
use Rattle.model.specs.Image.{chip_of}
use Rattle.model.specs.Tree.{sought}
use Rattle.model.specs.Stores.{Store}
use Rattle.model.specs.Update.{needs, too_high, insert_stores, delete_stores}
use Rattle.model.specs.Calls.{refused, made, worn, roomless, free_pages, insert_rest, delete_rest}
use Rattle.theory_images.specs.Lengths.{length_all}

-- ---- the length, on every image
made_length : (g : Geometry) (ss : List Store) (al : ℕ) (img : List ℕ) → length (made g ss al img).image ≡ length img
unfolding made
made_length g ss al img = length_all g (take al ss) img

pub insert_long : (g : Geometry) (n : ℕ) (img : List ℕ) (k a al : ℕ) → length (insert_rest g n img k a al).image
    ≡ length img
unfolding insert_rest
insert_long g n img k a al = go (worn g n img) (too_high g (chip_of g n img) k) (roomless g (free_pages g n (chip_of g n img)) (needs g (chip_of g n img) k))
  where
    go : (x y z : Bool) → length (pick x (refused 3 img)
        (pick y (refused 5 img) (pick z (refused 6 img) (made g (insert_stores g n img k a) al img)))).image
        ≡ length img
    go true y z = refl
    go false true z = refl
    go false false true = refl
    go false false false = made_length g (insert_stores g n img k a) al img

pub delete_long : (g : Geometry) (n : ℕ) (img : List ℕ) (k al : ℕ) → length (delete_rest g n img k al).image
    ≡ length img
unfolding delete_rest
delete_long g n img k al = go (worn g n img) (is_none (sought (chip_of g n img) k))
  where
    go : (x y : Bool) → length (pick x (refused 3 img)
        (pick y (refused 4 img) (made g (delete_stores g n img k) al img))).image ≡ length img
    go true y = refl
    go false true = refl
    go false false = made_length g (delete_stores g n img k) al img
