-- Request 8, "Open once, call often": a sound image is opened, and each call takes the record and the words that the
-- call before it returned. Every outcome is that of the old call on the image as it then stands, and the record stays
-- what opening would give. Assumes nothing.
use Rattle.std.specs.Prelude.{◌≡◌, refl, ℕ, ◌≤◌}
use Rattle.std.proofs.Math.Path.{ap, subst}
use Rattle.std.proofs.Common.{sym, ◌∙◌, arith}
use mathlib.Core.List.{List, [], ◌∷◌}
use Rattle.std.proofs.Math.ListN.{length}
use Rattle.geometry.specs.declared.Geometry.{Geometry}
use Rattle.geometry.specs.Shape.{Known}
use Rattle.geometry.proofs.Shape.{shape}
use Rattle.model.specs.Image.{blocks_of}
use Rattle.model.specs.Calls.{Outcome, insert, delete}
use Rattle.theory_lists.specs.All.{All}
use Rattle.live_words.specs.Words.{words_of, Past}
use Rattle.live_words.specs.Live.{insert_live, delete_live}
use Rattle.open_record.specs.declared.Opened.{Opened}
use Rattle.open_record.specs.Opened.{opened}
use Rattle.theory_images.specs.Lengths.{blocks_same}
use Rattle.live_beside.specs.Update.{Returned, returned}
use Rattle.live_beside.specs.Calls.{insert_with, delete_with}
use Rattle.theory_demands.specs.Words.{Ready}
use Rattle.theory_demands.specs.Calls.{judged_ready}
use Rattle.theory_demands.proofs.Stays.{insert_ready, delete_ready}
use Rattle.theory_demands.specs.Stays.{insert_long, delete_long}
use Rattle.theory_demands.proofs.Live.{insert_live_lem, delete_live_lem}
use Rattle.theory_demands.proofs.OpenedCalls.{insert_same, delete_same}
use Rattle.theory_demands.specs.Often.{Low, Open, Update, again, often, old, olden, put, take}

module _ (g : Geometry) (known : Known g) where
  -- what is left by an outcome o on an image of b blocks with words enough
  open_after : (img lent : List ℕ) (o : Outcome) (words : List ℕ) → words_of g (blocks_of g img) ≤ length lent
      → length o.image ≡ length img → Ready g o.image
      → Past (words_of g (blocks_of g img)) lent words → Open g (returned o (opened g o.image) words)
  open_after img lent o words room long r past = record {
    ready = r;
    record_is = refl;
    enough = (let e = ap (words_of g) (blocks_same g img o.image long) in let z = past.long in
        omega (arith, e, z, room));
  }

  -- one call: the old outcome, and the session stays open
  pub call_again : (r : Returned) (x : Update) → Low x → Open g r
      → ((again g r x).outcome ≡ old g r.outcome.image x) × Open g (again g r x)
  unfolding insert delete
  call_again r (put k a al) low h =
      let img = r.outcome.image in
      let o = insert g img k a al in
      let e : insert_with g img r.words r.opened k a al ≡ returned o (opened g o.image) (insert_live g img r.words k a al).words
      = ap (λ (v : Opened). insert_with g img r.words v k a al) h.record_is ∙ insert_same g known img h.ready
      r.words h.enough k a al low.0 low.1 in
      let long = ap (λ (v : Outcome). length v.image) (judged_ready g img _ h.ready)
      ∙ insert_long g (blocks_of g img) img k a al in (
        ap (λ (v : Returned). v.outcome) e,
        subst (Open g) (sym e) (open_after img r.words o (insert_live g img r.words k a al).words h.enough long
            (insert_ready g (shape g known) img h.ready k a al low.0 low.1) (insert_live_lem g img r.words k a al).words_past),
      )
  call_again r (take k al) low h =
      let img = r.outcome.image in
      let o = delete g img k al in
      let e : delete_with g img r.words r.opened k al ≡ returned o (opened g o.image) (delete_live g img r.words k al).words
      = ap (λ (v : Opened). delete_with g img r.words v k al) h.record_is
      ∙ delete_same g known img h.ready r.words h.enough k al low in
      let long = ap (λ (v : Outcome). length v.image) (judged_ready g img _ h.ready)
      ∙ delete_long g (blocks_of g img) img k al in (
        ap (λ (v : Returned). v.outcome) e,
        subst (Open g) (sym e) (open_after img r.words o (delete_live g img r.words k al).words h.enough long
            (delete_ready g (shape g known) img h.ready k al low) (delete_live_lem g img r.words k al).words_past),
      )

  -- all of them: the image of the old calls, and the record that opening would then give
  pub calls_often : (xs : List Update) (r : Returned) → All Low xs → Open g r
      → ((often g xs r).outcome.image ≡ olden g xs r.outcome.image) × Open g (often g xs r)
  unfolding often olden
  calls_often [] r low h = (refl, h)
  calls_often (x ∷ xs) r low h =
      let one = call_again r x low.0 h in
      let rest = calls_often xs (again g r x) low.1 one.1 in
      (rest.0 ∙ ap (λ (o : Outcome). olden g xs o.image) one.0, rest.1)
