-- Request 1, "Frames between two keys", about the definition `listing` of crate model: what it gives for every image,
-- and on a sound image. `between` is the part of a map, `lists` and `lists_none` are what a listing gives (crate model);
-- Ready, map_at, Rising are the words of the demands. g is any geometry with `Shape g`. Assumes nothing.
use Rattle.std.specs.Prelude.{◌≡◌, true, false, ℕ, suc, ◌+◌, ◌*◌, ◌<◌, ◌≤◌, leb, length, get_or, None}
use Rattle.std.proofs.Common.{ap, subst, arith}
use mathlib.Core.List.{List, []}
use Rattle.geometry.specs.declared.Geometry.{Geometry}
use Rattle.geometry.specs.declared.Entry.{Entry}
use Rattle.geometry.specs.Findings.{broken_at}
use Rattle.geometry.specs.Geometry.{half}
use Rattle.geometry.specs.Shape.{Shape}
use Rattle.geometry.specs.Tests.{pick, ◌&◌}
use Rattle.geometry.specs.Bounds.{four_bytes}
use Rattle.model.specs.Image.{blocks_of, pages_of, good_length, Chip, chip_of}
use Rattle.model.specs.Tree.{entry_of, find}
use Rattle.model.specs.Rules.{verdict}
use Rattle.model.specs.Calls.{by_verdict, judged}
use Rattle.model.specs.Listing.{between, ranged_of, written_of, filled, lists, lists_none, listing}
use Rattle.theory_nodes.specs.Nodes.{fit_of}
use Rattle.theory_nodes.proofs.Between.{ranged_root}
use Rattle.theory_demands.specs.Words.{Ready, map_at, Rising}
use Rattle.theory_demands.specs.Bridges.{ready_keeps}
use Rattle.theory_demands.specs.Demands.{map_sorted}
use Rattle.theory_demands.specs.Between.{between_rising, between_finds, between_none, filled_length, filled_key, filled_address, filled_beyond}
use Rattle.theory_demands.specs.Looked.{looked_of, looked_few}

-- ---- every image: "LENGTH and DAMAGED come first, with both counts 0, and leave the buffer untouched"
module _ (g : Geometry) (img : List ℕ) (low high : ℕ) (buffer : List ℕ) where
  pub list_bad_length : good_length g img ≡ false → listing g img low high buffer ≡ lists_none 1 0 0 buffer
  unfolding listing judged
  list_bad_length e = rw e

  pub list_not_sound : (rule page : ℕ) → good_length g img ≡ true → verdict g (blocks_of g img) img ≡ broken_at rule page
      → listing g img low high buffer ≡ lists_none 2 rule page buffer
  unfolding listing judged by_verdict
  list_not_sound rule page e d = rw (e, d)

-- ---- a sound image
module _ (g : Geometry) (shape : Shape g) (img : List ℕ) (ready : Ready g img) (low high : ℕ) where
  abbrev c : Chip
  c = chip_of g (blocks_of g img) img

  abbrev part : List Entry
  part = between low high (map_at g img)

  -- the walk finds the map's part between the keys
  pub walk_between : ranged_of c low high ≡ part
  walk_between = ranged_root (fit_of (pages_of g (blocks_of g img)) c.er) (λ l. 2 * half g l) c.nodes low high c.level four_bytes c.root
      (ready_keeps g shape img ready).held.whole.sound.rooted.rises

  -- "The list is exactly the map's part between the keys": answer 0, how many pairs of it there are, how many were
  -- written, and the buffer
  pub listing_lists : (buffer : List ℕ) → listing g img low high buffer ≡ lists part buffer
  unfolding listing judged by_verdict
  listing_lists buffer = rw (ready.length_good, ready.is_sound_lem) (ap (λ (es : List Entry). lists es buffer) walk_between)

  -- "each pair once", "in rising key order"
  pub part_rises : Rising four_bytes part
  part_rises = between_rising low high four_bytes (map_at g img) (map_sorted g shape img ready 0 (omega arith))

  -- every key between, both taken in, is there with the map's address, and no other key
  pub part_finds : (k : ℕ) → find k part ≡ pick (leb low k & leb k high) (find k (map_at g img)) None
  part_finds k = between_finds low high k (map_at g img)

  -- "Low above high gives zero pairs"
  pub part_none : high < low → part ≡ []
  part_none h = between_none low high (map_at g img) h

  -- the walk looks at no more nodes than two and one for each pair at each level
  pub few_looked : low < four_bytes → length (looked_of c low high) ≤ suc c.level * (2 + length part)
  few_looked h = subst (λ (es : List Entry). length (looked_of c low high) ≤ suc c.level * (2 + length es)) walk_between
      (looked_few (fit_of (pages_of g (blocks_of g img)) c.er) (λ l. 2 * half g l) c.nodes low high c.level four_bytes c.root h
      (ready_keeps g shape img ready).held.whole.sound.rooted.rises)

-- ---- the buffer, for any list of pairs: the first `written_of` of them, key then address; what is beyond stays
module _ (es : List Entry) (buffer : List ℕ) where
  pub buffer_length : length (filled es buffer) ≡ length buffer
  buffer_length = filled_length es buffer

  pub buffer_key : (i : ℕ) → i < written_of es buffer → get_or (filled es buffer) (2 * i) 0 ≡ (entry_of es i).key
  buffer_key i h = filled_key es buffer i h

  pub buffer_address : (i : ℕ) → i < written_of es buffer → get_or (filled es buffer) (2 * i + 1) 0 ≡ (entry_of es i).addr
  buffer_address i h = filled_address es buffer i h

  pub buffer_beyond : (j : ℕ) → 2 * written_of es buffer ≤ j → get_or (filled es buffer) j 0 ≡ get_or buffer j 0
  buffer_beyond j h = filled_beyond es buffer j h
