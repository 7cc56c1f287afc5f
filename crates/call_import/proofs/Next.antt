-- One turn of `store_pairs`, and its end, on lists. Assumes nothing.
use Rattle.std.proofs.Common.{ℕ, ◌≡◌, ◌+◌, ◌<◌, ◌≤◌, List, length, get_or, drop, refl, add-one, drop-cons, drop_of_length-le}
use Rattle.geometry.specs.declared.Geometry.{Geometry}
use Rattle.geometry.specs.declared.Entry.{Entry}
use Rattle.model.specs.Calls.{Outcome}
use Rattle.text_carrying.specs.Carrying.{store_one, store_all}
use Rattle.text_reader.specs.Reader.{no_pair}

module _ (g : Geometry) (ys : List Entry) (i : ℕ) (s : Outcome) where
  pub store_next : (r : Outcome) → i < length ys → r ≡ store_one g s (get_or ys i no_pair)
      → store_all g r (drop (i + 1) ys) ≡ store_all g s (drop i ys)
  unfolding store_all
  store_next r h e = rw (drop-cons ys i no_pair h, add-one, e) refl

  pub store_end : length ys ≤ i → s ≡ store_all g s (drop i ys)
  unfolding store_all
  store_end h = rw (drop_of_length-le ys h) refl
