-- The index's calls on the small chip are an order's. Assumes nothing.
use Rattle.std.specs.Prelude.{◌≡◌, List, ℕ, ◌≤◌, length}
use Rattle.std.proofs.Math.Path.{ap}
use Rattle.std.proofs.Common.{sym, ◌∙◌}
use Rattle.geometry.specs.Geometry.{small}
use Rattle.geometry.specs.Shape.{is_small}
use Rattle.model.specs.Calls.{Outcome, chosen_call, format_of, lookup_of, insert_of, delete_of}
use Rattle.live_words.specs.Live.{Reply, reply, insert_live_of, delete_live_of}
use Rattle.call_account.specs.Lent.{insert_outcome, delete_outcome}
use Rattle.log_lines.specs.declared.Order.{Order}
use Rattle.log_lines.specs.declared.Order.TheVariants.{Format, Insert, Delete, Lookup, Limited}
use Rattle.log_lines.specs.Replay.{obeyed}

-- words enough for every image: the outcome is that of the call without them
module _ (img old new : List ℕ) (o : Outcome) (room : 2048 ≤ length old) where
  pub put_is : (k a x : ℕ) → reply o new ≡ insert_live_of 0 img old k a x → o ≡ insert_of 0 img k a x
  unfolding insert_live_of insert_of chosen_call
  put_is k a x e = ap (λ (r : Reply). r.outcome) e ∙ insert_outcome small is_small img old room k a x

  pub remove_is : (k x : ℕ) → reply o new ≡ delete_live_of 0 img old k x → o ≡ delete_of 0 img k x
  unfolding delete_live_of delete_of chosen_call
  remove_is k x e = ap (λ (r : Reply). r.outcome) e ∙ delete_outcome small is_small img old room k x

module _ (order : Order) (img : List ℕ) (o : Outcome) where
  pub play_format : order ≡ Format → o ≡ format_of 0 img → o ≡ obeyed small order img
  unfolding format_of chosen_call obeyed
  play_format e h = h ∙ ap (λ (x : Order). obeyed small x img) (sym e)

  pub play_insert : (k a : ℕ) → order ≡ Insert k a → o ≡ insert_of 0 img k a 4294967295 → o ≡ obeyed small order img
  unfolding insert_of chosen_call obeyed
  play_insert k a e h = h ∙ ap (λ (x : Order). obeyed small x img) (sym e)

  pub play_delete : (k : ℕ) → order ≡ Delete k → o ≡ delete_of 0 img k 4294967295 → o ≡ obeyed small order img
  unfolding delete_of chosen_call obeyed
  play_delete k e h = h ∙ ap (λ (x : Order). obeyed small x img) (sym e)

  pub play_lookup : (k : ℕ) → order ≡ Lookup k → o ≡ lookup_of 0 img k → o ≡ obeyed small order img
  unfolding lookup_of chosen_call obeyed
  play_lookup k e h = h ∙ ap (λ (x : Order). obeyed small x img) (sym e)

  pub play_limited : (k a allowance : ℕ) → order ≡ Limited k a allowance → o ≡ insert_of 0 img k a allowance
      → o ≡ obeyed small order img
  unfolding insert_of chosen_call obeyed
  play_limited k a allowance e h = h ∙ ap (λ (x : Order). obeyed small x img) (sym e)

pub ruleset playing_laws = (put_is, remove_is, play_format, play_insert, play_delete, play_lookup, play_limited)
