-- The record after an update: where all stores are made it goes on from the record before them, else it is taken anew;
-- both are what opening gives of the image that is left. Assumes nothing.
use Rattle.std.specs.Prelude.{◌≡◌, Bool, true, false, ℕ, suc, ◌+◌, ◌-◌, ◌%◌, ◌<◌, ◌≤◌, min, length, take}
use Rattle.std.proofs.Math.Path.{refl, ap}
use Rattle.std.proofs.Common.{sym, ◌∙◌, arith, mod-eq_of_lt, take_all, leb-true}
use mathlib.Core.List.{List}
use Rattle.std.proofs.Math.Dec.{leb}
use Rattle.geometry.specs.declared.Geometry.{Geometry}
use Rattle.geometry.specs.Tests.{pick}
use Rattle.geometry.specs.Shape.{Shape, shape_core}
use Rattle.geometry.specs.Bounds.{four_bytes}
use Rattle.model.specs.Bytes.{erased}
use Rattle.model.specs.Image.{pages_of, height_of, max_seq, root_of, Chip, chip_of}
use Rattle.model.specs.Tree.{Place, places_of, live, erased_pages}
use Rattle.model.specs.Stores.{Store, apply_all, programs, erases}
use Rattle.model.specs.Calls.{gives, made}
use Rattle.chip_store.specs.Careful.{Cautious}
use Rattle.theory_images.specs.Held.{Held, root_height}
use Rattle.theory_images.specs.Few.{Few, few_places}
use Rattle.live_words.specs.Words.{words_of, filled}
use Rattle.live_words.specs.Live.{live_words}
use Rattle.open_record.specs.declared.Opened.{Opened}
use Rattle.open_record.specs.Opened.{opened_in}
use Rattle.live_beside.specs.Beside.{next_after}
use Rattle.live_beside.specs.Update.{returned, places_most, places_by, words_by, Crest, record_made, made_by}
use Rattle.theory_updates.specs.Level.{chip_right}
use Rattle.theory_updates.specs.Updated.{Stands}
use Rattle.theory_updates.specs.Made.{made_is, all_made}

-- the record after m own pages, from that of the image `start` to that of the image `then`
pub record_made_lem : (g : Geometry) (n : ℕ) (start then : List ℕ) (m : ℕ) (t : Crest) → Stands g n (chip_of g n start) m t
    (chip_of g n then) → Held g n then
    → max_seq g n start + m < 4294967296 → record_made g n (opened_in g n start) m t then ≡ opened_in g n then
unfolding record_made opened_in max_seq
record_made_lem g n start then m t s held low =
    let top = s.topped in
    let number : (max_seq g n start + m) % four_bytes ≡ max_seq g n start + m = mod-eq_of_lt (omega (arith, low)) in
    let height : suc t.level ≡ height_of g then (root_of g n then) = (let a = s.level_is in let b = held.r4 in
    let c = root_height g n then in omega (arith, a, b, c)) in
    let left = top.frees in
    λ i. record {
      root = sym s.root_is i;
      number = (number ∙ sym top.number_is_lem) i;
      most = (number ∙ sym top.most_is) i;
      height = height i;
      next = min (pages_of g n) ((ap (next_after g.pages n (erased g then)) (sym s.root_is) ∙ top.next_is) i);
      erased = (let z : erased_pages (pages_of g n) (chip_of g n start) - m ≡ erased_pages (pages_of g n) (chip_of g n then) =
          omega (arith, left) in z) i;
    }

-- the nodes and the words by the record of a held image
pub places_by_lem : (g : Geometry) → Shape g → Few g → (n : ℕ) (img : List ℕ) → 1 ≤ pages_of g n → Held g n img
    → places_by g img (opened_in g n img) ≡ places_of (chip_of g n img)
places_by_lem g shape few n img some held =
    ap (λ (c : Chip). take places_most (places_of c)) (chip_right g (shape_core g shape) n img held)
    ∙ take_all places_most (places_of (chip_of g n img)) (few_places g shape few n img some held)

pub words_by_lem : (g : Geometry) → Shape g → Few g → (n : ℕ) (img old : List ℕ) → 1 ≤ pages_of g n → Held g n img
    → words_by g n (opened_in g n img) img old ≡ live_words g n img old
unfolding words_by live_words
words_by_lem g shape few n img old some held =
    ap (λ (x : List Place). filled (live x) (words_of g n) old) (places_by_lem g shape few n img some held)

module _ (g : Geometry) (shape : Shape g) (few : Few g) (n : ℕ) (some : 1 ≤ pages_of g n) (ss : List Store)
    (img : List ℕ) (cautious : Cautious g ss img)
    (held : (j : ℕ) → Held g n (apply_all g (take j ss) img)) (o : Opened) (m : ℕ) (t : Crest)
    (goes : record_made g n o m t (apply_all g ss img) ≡ opened_in g n (apply_all g ss img)) (al : ℕ) (old : List ℕ) where
  abbrev then : List ℕ
  then = apply_all g (take al ss) img

  -- the record is that of the image in both cases
  record_left : (u : Bool) → leb (length ss) al ≡ u → pick u (record_made g n o m t then) (opened_in g n then)
      ≡ opened_in g n then
  record_left true e =
      let z : then ≡ apply_all g ss img = ap (λ (y : List Store). apply_all g y img) (take_all al ss (leb-true (length ss) al e)) in
      ap (record_made g n o m t) z ∙ goes ∙ sym (ap (opened_in g n) z)
  record_left false e = refl

  pub made_by_lem : made_by g n ss o m t al img old ≡ returned (made g ss al img) (opened_in g n (made g ss al img).image)
      (live_words g n (made g ss al img).image old)
  unfolding made_by made
  made_by_lem =
      let a = made_is g ss al img cautious in
      let b = ap (λ (x : List Store). leb (length ss) (length x)) a ∙ all_made ss al in
      let l = record_left (leb (length ss) al) refl in
      (λ i.
      let left = pick (b i) (record_made g n o m t (apply_all g (a i) img)) (opened_in g n (apply_all g (a i) img)) in
      returned (gives (pick (b i) 0 7) 0 (programs (a i)) (erases (a i)) (apply_all g (a i) img)) left (words_by g n left (apply_all g (a i) img) old))
      ∙ (λ i. returned (made g ss al img) (l i) (words_by g n (l i) then old))
      ∙ ap (returned (made g ss al img) (opened_in g n then)) (words_by_lem g shape few n then old some (held al))
