-- Each tree on a sound image: an accepted order is answered as the map says and leaves a sound image, whose map is the
-- old one with the order carried out; the largest number grows by at most 191, and while it is not above the limit no
-- order is answered by WORN. Assumes nothing.
use Rattle.std.specs.Prelude.{◌≡◌, refl, List, [], ◌∷◌, ℕ, ◌<◌, ◌≤◌}
use Rattle.std.proofs.Common.{ap, sym, ◌∙◌, inl, inr, arith}
use Rattle.std.proofs.Math.Path.{subst}
use Rattle.geometry.specs.declared.Geometry.{Geometry}
use Rattle.geometry.specs.declared.Entry.{Entry}
use Rattle.geometry.specs.Geometry.{small, plain}
use Rattle.geometry.proofs.Shape.{small_shape}
use Rattle.geometry.specs.Shape.{shape_core, plain_core}
use Rattle.geometry.specs.Bounds.{four_bytes}
use Rattle.model.specs.Image.{blocks_of}
use Rattle.model.specs.Tree.{find}
use Rattle.model.specs.Stores.{Store}
use Rattle.model.specs.Edit.{put, remove}
use Rattle.model.specs.Update.{insert_stores, delete_stores}
use Rattle.model.specs.Calls.{Outcome, made, insert, delete}
use Rattle.model.specs.Plain.{plain_insert_stores, plain_insert, plain_delete_stores, plain_delete}
use Rattle.log_lines.specs.declared.Order.{Order}
use Rattle.log_lines.specs.declared.Order.TheVariants.{Format, Insert, Delete, Lookup, Limited}
use Rattle.log_lines.specs.Replay.{largest_allowance, obeyed}
use Rattle.compare_scores.specs.Scores.{plain_obeyed}
use Rattle.theory_demands.specs.Words.{Ready, map_at, Holds, OneOf}
use Rattle.theory_demands.specs.Calls.{insert_tests, delete_tests, insert_is, made_began}
use Rattle.theory_demands.proofs.Calls.{delete_is}
use Rattle.theory_demands.specs.Refusals.{format_answers}
use Rattle.theory_demands.specs.Demands.{lookup_answers, insert_answers}
use Rattle.theory_demands.proofs.Demands.{delete_refused, delete_answers, delete_absent, absent_delete}
use Rattle.theory_demands.specs.Demands.{insert_made_lem}
use Rattle.theory_demands.proofs.Demands.{insert_done, delete_done, insert_stores_lem, delete_stores_lem, delete_made_lem}
use Rattle.theory_demands.specs.Builds.{format_holds}
use Rattle.plain_updates.specs.Words.{plain_insert_tests, plain_delete_tests, plain_insert_is, plain_delete_is, plain_insert_passed, plain_delete_passed}
use Rattle.plain_updates.specs.Words.{plain_delete_refused, plain_format_holds, plain_reads}
use Rattle.plain_updates.proofs.Words.{plain_insert_kept, plain_insert_done, plain_delete_kept, plain_delete_done}
use Rattle.plain_updates.specs.Answers.{plain_insert_answers, plain_delete_answers, plain_delete_absent, plain_absent_delete}
use Rattle.theory_same_map.specs.Words.{Fits, Accepts}
use Rattle.theory_same_map.specs.Numbers.{largest_on, update_raises}
use Rattle.theory_same_map.proofs.Leaves.{Leaves, Obeys, absence, address_in, tested_address, put_leaves, remove_leaves, found_leaves}
use Rattle.theory_same_map.proofs.Leaves.{format_leaves, tested_unworn, low_unworn, found_unworn}

-- an update's own address is 0
made_address : (g : Geometry) (ss : List Store) (al : ℕ) (img : List ℕ) → (made g ss al img).address ≡ 0
unfolding made
made_address g ss al img = refl

-- ---- the μ-Tree
module _ (img : List ℕ) (ready : Ready small img) where
  abbrev n : ℕ
  n = blocks_of small img

  abbrev map : List Entry
  map = map_at small img

  here : Holds small map img
  here = record { ready = ready; map_is = refl }

  mu_put : (k a al : ℕ) → k < four_bytes → a < four_bytes → Accepts (insert small img k a al) → Leaves small img 0 0
      (put k a map) (insert small img k a al)
  mu_put k a al k_low a-low accepts =
      let ss = insert_stores small n img k a in
      put_leaves small img map (insert small img k a al)
      (ap (λ (o : Outcome). o.address) (insert_is small img k a al ready)
      ∙ tested_address img (insert_tests small img k a al) _ (made_address small ss al img))
      accepts
      (λ h. update_raises small (shape_core small small_shape) map (put k a map) img ss al (insert small img k a al) ready.length_good
      (insert_stores_lem small small_shape img ready k k_low a al a-low (inl h)) (insert_made_lem small small_shape img ready k k_low a al (inl h)) h)
      k a (insert_answers small small_shape img ready k k_low a al) (insert_done small small_shape img ready k k_low a al a-low)

  mu_remove : (k al : ℕ) → k < four_bytes → Accepts (delete small img k al) → Leaves small img (absence (find k map)) 0
      (remove k map) (delete small img k al)
  mu_remove k al k_low accepts =
      let ss = delete_stores small n img k in
      remove_leaves small img map (delete small img k al)
      (ap (λ (o : Outcome). o.address) (delete_is small img k 0 al ready)
      ∙ tested_address img (delete_tests small img k 0 al) _ (made_address small ss al img))
      accepts
      (λ h. update_raises small (shape_core small small_shape) map (remove k map) img ss al (delete small img k al) ready.length_good
      (delete_stores_lem small small_shape img ready k k_low al (inl h)) (delete_made_lem small small_shape img ready k k_low al (inl h)) h)
      k (wider (delete small img k al).answer (delete_answers small small_shape img ready k k_low al)) (delete_absent small small_shape img ready k k_low al)
      (absent_delete small small_shape img ready k k_low al)
      (λ e. delete_refused small img k al (omega (arith, e)) (omega (arith, e))) here (delete_done small small_shape img ready k k_low al)
    where
      wider : (j : ℕ) → OneOf j (0 ∷ 3 ∷ 4 ∷ 7 ∷ []) → OneOf j (0 ∷ 3 ∷ 4 ∷ 6 ∷ 7 ∷ [])
      wider j (inl e) = inl e
      wider j (inr (inl e)) = inr (inl e)
      wider j (inr (inr (inl e))) = inr (inr (inl e))
      wider j (inr (inr (inr e))) = inr (inr (inr (inr e)))

  mu_obeys_own : (order : Order) → Fits order → Accepts (obeyed small order img) → Obeys small order map img
      (obeyed small order img)
  unfolding obeyed
  mu_obeys_own Format fits accepts = format_leaves small (shape_core small small_shape) img ready.length_good ready.bytes
      (format_holds small small_shape (omega arith) img ready.length_good ready.bytes)
  mu_obeys_own (Insert k a) fits accepts = mu_put k a largest_allowance fits.0 fits.1 accepts
  mu_obeys_own (Delete k) fits accepts = mu_remove k largest_allowance fits accepts
  mu_obeys_own (Lookup k) fits accepts = subst (Leaves small img (absence (find k map)) (address_in (find k map)) map)
      (sym (lookup_answers small small_shape img ready k fits)) (found_leaves small img map k here)
  mu_obeys_own (Limited k a al) fits accepts = mu_put k a al fits.0 fits.1 accepts

  module _ (low : largest_on small img ≤ small.worn) where
    mu_insert_unworn : (k a al : ℕ) → (insert small img k a al).answer ≡ 3 → ⊥
    mu_insert_unworn k a al e = tested_unworn img (insert_tests small img k a al) _ (made_began small (insert_stores small n img k a) al img)
        ((λ _. low_unworn small img low), ((λ z. absurd (omega (arith, z))), ((λ z. absurd (omega (arith, z))), tt)))
        (sym (ap (λ (o : Outcome). o.answer) (insert_is small img k a al ready)) ∙ e)

    mu_delete_unworn : (k al : ℕ) → (delete small img k al).answer ≡ 3 → ⊥
    mu_delete_unworn k al e = tested_unworn img (delete_tests small img k 0 al) _ (made_began small (delete_stores small n img k) al img)
        ((λ _. low_unworn small img low), ((λ z. absurd (omega (arith, z))), tt))
        (sym (ap (λ (o : Outcome). o.answer) (delete_is small img k 0 al ready)) ∙ e)

    pub mu_unworn : (order : Order) → Fits order → (obeyed small order img).answer ≡ 3 → ⊥
    unfolding obeyed
    mu_unworn Format fits e = let z = format_answers small img ready.length_good in omega (arith, z, e)
    mu_unworn (Insert k a) fits e = mu_insert_unworn k a largest_allowance e
    mu_unworn (Delete k) fits e = mu_delete_unworn k largest_allowance e
    mu_unworn (Lookup k) fits e = found_unworn (find k map) img (sym (ap (λ (o : Outcome). o.answer) (lookup_answers small small_shape img ready k fits)) ∙ e)
    mu_unworn (Limited k a al) fits e = mu_insert_unworn k a al e

pub mu_obeys : (order : Order) → Fits order → (map : List Entry) (img : List ℕ) → Holds small map img
    → Accepts (obeyed small order img)
    → Obeys small order map img (obeyed small order img)
mu_obeys order fits map img h accepts = subst (λ (m : List Entry). Obeys small order m img (obeyed small order img)) h.map_is
    (mu_obeys_own img h.ready order fits accepts)

-- ---- the plain tree
module _ (img : List ℕ) (ready : Ready plain img) where
  abbrev m : ℕ
  m = blocks_of plain img

  abbrev its : List Entry
  its = map_at plain img

  there : Holds plain its img
  there = record { ready = ready; map_is = refl }

  plain_put : (k a al : ℕ) → k < four_bytes → a < four_bytes → Accepts (plain_insert plain img k a al)
      → Leaves plain img 0 0 (put k a its) (plain_insert plain img k a al)
  plain_put k a al k_low a-low accepts =
      let ss = plain_insert_stores plain m img k a in
      put_leaves plain img its (plain_insert plain img k a al)
      (ap (λ (o : Outcome). o.address) (plain_insert_is img k a al ready)
      ∙ tested_address img (plain_insert_tests img k a al) _ (made_address plain ss al img))
      accepts
      (λ h. update_raises plain plain_core its (put k a its) img ss al (plain_insert plain img k a al) ready.length_good
      (plain_insert_kept img ready k k_low a al a-low (inl h)) (plain_insert_passed img k a al ready (inl h)).1 h)
      k a (plain_insert_answers img k ready a al) (plain_insert_done img ready k k_low a al a-low)

  plain_remove : (k al : ℕ) → k < four_bytes → Accepts (plain_delete plain img k al)
      → Leaves plain img (absence (find k its)) 0 (remove k its) (plain_delete plain img k al)
  plain_remove k al k_low accepts =
      let ss = plain_delete_stores plain m img k in
      remove_leaves plain img its (plain_delete plain img k al)
      (ap (λ (o : Outcome). o.address) (plain_delete_is img k 0 al ready)
      ∙ tested_address img (plain_delete_tests img k 0 al) _ (made_address plain ss al img))
      accepts
      (λ h. update_raises plain plain_core its (remove k its) img ss al (plain_delete plain img k al) ready.length_good
      (plain_delete_kept img ready k k_low al (inl h)) (plain_delete_passed img k 0 al ready (inl h)).1 h)
      k (plain_delete_answers img k ready al) (plain_delete_absent img k ready k_low al) (plain_absent_delete img k ready k_low al)
      (λ e. plain_delete_refused img k 0 al (omega (arith, e)) (omega (arith, e))) there (plain_delete_done img ready k k_low al)

  plain_obeys_own : (order : Order) → Fits order → Accepts (plain_obeyed order img) → Obeys plain order its img
      (plain_obeyed order img)
  unfolding plain_obeyed
  plain_obeys_own Format fits accepts = format_leaves plain plain_core img ready.length_good ready.bytes
      (plain_format_holds img ready.length_good ready.bytes)
  plain_obeys_own (Insert k a) fits accepts = plain_put k a largest_allowance fits.0 fits.1 accepts
  plain_obeys_own (Delete k) fits accepts = plain_remove k largest_allowance fits accepts
  plain_obeys_own (Lookup k) fits accepts = subst (Leaves plain img (absence (find k its)) (address_in (find k its)) its)
      (sym (plain_reads img ready k fits)) (found_leaves plain img its k there)
  plain_obeys_own (Limited k a al) fits accepts = plain_put k a al fits.0 fits.1 accepts

  module _ (low : largest_on plain img ≤ plain.worn) where
    plain_insert_unworn : (k a al : ℕ) → (plain_insert plain img k a al).answer ≡ 3 → ⊥
    plain_insert_unworn k a al e = tested_unworn img (plain_insert_tests img k a al) _ (made_began plain (plain_insert_stores plain m img k a) al img)
        ((λ _. low_unworn plain img low), ((λ z. absurd (omega (arith, z))), ((λ z. absurd (omega (arith, z))), tt)))
        (sym (ap (λ (o : Outcome). o.answer) (plain_insert_is img k a al ready)) ∙ e)

    plain_delete_unworn : (k al : ℕ) → (plain_delete plain img k al).answer ≡ 3 → ⊥
    plain_delete_unworn k al e = tested_unworn img (plain_delete_tests img k 0 al) _ (made_began plain (plain_delete_stores plain m img k) al img)
        ((λ _. low_unworn plain img low), ((λ z. absurd (omega (arith, z))), ((λ z. absurd (omega (arith, z))), tt)))
        (sym (ap (λ (o : Outcome). o.answer) (plain_delete_is img k 0 al ready)) ∙ e)

    pub plain_unworn : (order : Order) → Fits order → (plain_obeyed order img).answer ≡ 3 → ⊥
    unfolding plain_obeyed
    plain_unworn Format fits e = let z = format_answers plain img ready.length_good in omega (arith, z, e)
    plain_unworn (Insert k a) fits e = plain_insert_unworn k a largest_allowance e
    plain_unworn (Delete k) fits e = plain_delete_unworn k largest_allowance e
    plain_unworn (Lookup k) fits e = found_unworn (find k its) img (sym (ap (λ (o : Outcome). o.answer) (plain_reads img ready k fits)) ∙ e)
    plain_unworn (Limited k a al) fits e = plain_insert_unworn k a al e

pub plain_obeys : (order : Order) → Fits order → (map : List Entry) (img : List ℕ) → Holds plain map img
    → Accepts (plain_obeyed order img)
    → Obeys plain order map img (plain_obeyed order img)
plain_obeys order fits map img h accepts =
    subst (λ (m : List Entry). Obeys plain order m img (plain_obeyed order img)) h.map_is
    (plain_obeys_own img h.ready order fits accepts)
