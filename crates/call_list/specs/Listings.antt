-- A listing, in the form in which the code has the premises. Assumes nothing.
use Rattle.std.specs.Prelude.{ℕ, zero, suc, ◌+◌, ◌-◌, ◌*◌, ◌/◌, min, ◌<◌, ◌≤◌, Bool, true, false, ◌≡◌, leb, take, drop}
use Rattle.std.proofs.Math.Path.{refl, sym, ap}
use Rattle.std.proofs.Common.{◌∙◌, Fits, length-append, take_all, arith, sub-one, add-one}
use Rattle.std.specs.Int.{w32}
use mathlib.Core.List.{List, [], ◌∷◌, ◌++◌}
use Rattle.std.proofs.Math.ListN.{length, length-take}
use Rattle.std.proofs.Math.Seq.{take-nil}
use borrow.Author.Tests.{lt-leb, le-leb}
use Rattle.geometry.specs.declared.Geometry.{Geometry}
use Rattle.geometry.specs.declared.Entry.{Entry}
use Rattle.geometry.specs.Findings.{Sound, broken_at}
use Rattle.geometry.specs.Shape.{Known}
use Rattle.geometry.proofs.Shape.{shape}
use Rattle.geometry.specs.Tests.{pick}
use Rattle.model.specs.Bytes.{entries_at, node_place, node_count, node_at}
use Rattle.model.specs.Image.{Nodes, Chip, chip_of}
use Rattle.model.specs.Tree.{gather, place}
use Rattle.model.specs.Calls.{Outcome, by_verdict, judged}
use Rattle.model.specs.Listing.{up_to, reached, ranged, ranged_of, written_of, lists, listing, as_outcome}
use Rattle.call_answers.specs.declared.Answer.TheVariants.{Done, Length, Damaged}
use Rattle.call_answers.specs.Answers.{told}
use Rattle.chip_read.specs.Chip.{entry_at, good_blocks, chip_with, naming}
use Rattle.chip_read.specs.Node.{node_read, entries_step, entries_turn, entries_past}
use Rattle.chip_read.specs.Blocks.{none_good, some_good, some_blocks}
use Rattle.live_walk.specs.Stops.{take_append}
use Rattle.open_record.specs.Opened.{pairs_most}
use Rattle.chip_survey.specs.Pass.{chip_is}
use Rattle.sound_verdict.specs.declared.Judgement.{Judgement}
use Rattle.sound_verdict.specs.Verdict.{Judged}
use Rattle.call_list.specs.Listing.{put_pair, put_pairs, not_below, rest, within, Lists, Goes, listed_in}
use Rattle.call_list.specs.Buffers.{put_in_lem, put_out, put_append, length_pairs, put_all}
use Rattle.call_list.specs.Few.{most_pairs_lem}

-- ---- one pair
module _ (b : List ℕ) (i low : ℕ) (e : Entry) where
  pub below_count : e.key < low → length (not_below low e) ≡ 0
  unfolding not_below
  below_count h = rw (lt-leb low e.key h) refl

  pub below_buffer : e.key < low → b ≡ put_pairs b i (not_below low e)
  unfolding not_below put_pairs
  below_buffer h = rw (lt-leb low e.key h) refl

  pub pair_count : low ≤ e.key → length (not_below low e) ≡ 1
  unfolding not_below
  pair_count h = rw (le-leb low e.key h) refl

  pub pair_buffer : (d : List ℕ) → d ≡ put_pair b i e → low ≤ e.key → d ≡ put_pairs b i (not_below low e)
  unfolding not_below put_pairs
  pair_buffer d f h = rw (le-leb low e.key h) f

-- ---- a node
ranged_pair : (r : Nodes) (low high l : ℕ) (e : Entry) → l ≡ 0 → not_below low e ≡ ranged r low high l e
unfolding not_below ranged
ranged_pair r low high l e z = rw z refl

ranged_node : (r : Nodes) (low high l : ℕ) (e : Entry) → (l ≡ 0 → ⊥) → ranged r low high l e ≡ gather (ranged r low high
    (l - 1)) (reached low high (r e.addr l))
unfolding ranged
ranged_node r low high zero e h = absurd (h refl)
ranged_node r low high (suc l) e h = rw sub-one refl

-- the entries from the i-th on
entries_from : (img : List ℕ) (at n i : ℕ) → i ≤ n → drop i (entries_at img at n) ≡ entries_at img (at + 8 * i) (n - i)
entries_from img at n zero h =
    let e : at + 8 * 0 ≡ at = omega arith in
    let f : n - 0 ≡ n = omega arith in
    rw (e, f) refl
entries_from img at zero (suc i) h = absurd (omega arith)
entries_from img at (suc n) (suc i) h =
    let e : at + 8 + 8 * i ≡ at + 8 * suc i = omega arith in
    let f : suc n - suc i ≡ n - i = omega arith in
    ap (drop (suc i)) (entries_step img at (suc n) (omega arith))
    ∙ rw (sub-one, ← e, f) (entries_from img (at + 8) n i (omega arith))

module _ (g : Geometry) (img : List ℕ) (low high l at n : ℕ) where
  -- the walk starts at the entry that descent with the low key takes
  rest_start : (e : Entry) (i : ℕ) → at ≡ node_place g e.addr l → n ≡ node_count g img e.addr l
      → i ≡ place low (entries_at img at n) → i ≤ n - 1
      → (l ≡ 0 → ⊥) → ranged (node_at g img) low high l e ≡ rest g img low high l at n i
  unfolding rest
  rest_start e i ea en ei h some =
      ranged_node (node_at g img) low high l e some
      ∙ rw (← (node_read g img e.addr l at n ea en), ← ei, entries_from img at n i (omega arith)) refl

  -- it goes down an entry whose key is not above the high one
  rest_turn : (i : ℕ) (b : Entry) → b ≡ entry_at img (at + 8 * i) → i < n → b.key ≤ high
      → rest g img low high l at n i ≡ ranged (node_at g img) low high (l - 1) b ++ rest g img low high l at n (i + 1)
  unfolding rest up_to gather
  rest_turn i b eb h k = rw (entries_turn img at n i h, ← eb, le-leb b.key high k) refl

  -- and ends at one whose key is, or after the last
  rest_above : (i : ℕ) (b : Entry) → b ≡ entry_at img (at + 8 * i) → i < n → high < b.key → rest g img low high l at n i
      ≡ []
  unfolding rest up_to gather
  rest_above i b eb h k = rw (entries_turn img at n i h, ← eb, lt-leb b.key high k) refl

  rest_past : (i : ℕ) → n ≤ i → rest g img low high l at n i ≡ []
  unfolding rest up_to gather
  rest_past i h = rw (entries_past img at n i h) refl

pub pairs_same : (b d : List ℕ) (x : ℕ) (es : List Entry) → d ≡ put_pairs b x es → length d ≡ length b
pairs_same b d x es e = rw e (length_pairs b x es)

-- ---- no more than `pairs_most` pairs in all
within_full : (x : ℕ) (es : List Entry) → pairs_most ≤ x → within x es ≡ []
unfolding within
within_full x es h = (let w : pairs_most - x ≡ 0 = omega arith in rw w refl)

within_none : (x : ℕ) → within x [] ≡ []
unfolding within
within_none x = take-nil (pairs_most - x)

within_pair : (x low : ℕ) (e : Entry) → x < pairs_most → within x (not_below low e) ≡ not_below low e
unfolding within not_below
within_pair x low e h = take_all (pairs_most - x) (pick (leb low e.key) (e ∷ []) []) (go (leb low e.key))
  where
    go : (t : Bool) → length (pick t (e ∷ []) []) ≤ pairs_most - x
    go true = omega arith
    go false = omega arith

-- two lists one after the other, the first of them c' - c pairs long
module _ (c c' : ℕ) (xs ys : List Entry) (e : c' ≡ c + length (within c xs)) where
  within_both : within c (xs ++ ys) ≡ within c xs ++ within c' ys
  unfolding within
  within_both =
      let q = length-take (pairs_most - c) xs in
      let w : pairs_most - c - length xs ≡ pairs_most - c' = omega (arith, e, q) in
      take_append (pairs_most - c) xs ys ∙ rw w refl

-- ---- the walk under an entry: full, at a pair, and over a node's entries
module _ (g : Geometry) (img : List ℕ) (low high l : ℕ) (e : Entry) (x : ℕ) (b : List ℕ) where
  pub lists_full : pairs_most ≤ x → Lists g img low high l e x x b b
  unfolding put_pairs
  lists_full h =
      let z = within_full x (ranged (node_at g img) low high l e) h in
      record { count = rw z (omega arith); buffer = rw z refl }

  pub lists_pair : (r : ℕ) (d : List ℕ) → r ≡ x + length (not_below low e) → d ≡ put_pairs b x (not_below low e) → l ≡ 0
      → x < pairs_most
      → Lists g img low high l e x r b d
  lists_pair r d er ed z h =
      let w : within x (ranged (node_at g img) low high l e) ≡ not_below low e =
      ap (within x) (sym (ranged_pair (node_at g img) low high l e z)) ∙ within_pair x low e h in
      record { count = rw w er; buffer = rw w ed }

  module _ (at n s : ℕ) (ea : at ≡ node_place g e.addr l) (en : n ≡ node_count g img e.addr l)
      (es : s ≡ place low (entries_at img at n)) (h : s ≤ n - 1)
      (some : l ≡ 0 → ⊥) where
    -- nothing is left at entry i
    module _ (i c : ℕ) (d : List ℕ) (inv : Goes g img low high l at n s x b i c d) where
      lists_end : rest g img low high l at n i ≡ [] → Lists g img low high l e x c b d
      unfolding put_pairs
      lists_end none =
          let all = rest_start g img low high l at n e s ea en es h some in
          let z : within c (rest g img low high l at n i) ≡ [] = rw none (within_none c) in
          record {
            count = sym (rw all (inv.count ∙ rw z (omega arith)));
            buffer = sym (rw all (inv.buffer ∙ rw z refl));
          }

      pub lists_past : n ≤ i → Lists g img low high l e x c b d
      lists_past p = lists_end (rest_past g img low high l at n i p)

      pub lists_above : (f : Entry) → f ≡ entry_at img (at + 8 * i) → i < n → high < f.key
          → Lists g img low high l e x c b d
      lists_above f ef p q = lists_end (rest_above g img low high l at n i f ef p q)

module _ (g : Geometry) (img : List ℕ) (low high l at n s x : ℕ) (b : List ℕ) where
  pub goes_start : Goes g img low high l at n s x b s x b
  goes_start = record { count = refl; buffer = refl }

  pub goes_turn : (i c c' : ℕ) (d d' : List ℕ) (f : Entry) → Goes g img low high l at n s x b i c d → f ≡ entry_at img
      (at + 8 * i) → i < n → f.key ≤ high
      → Lists g img low high (l - 1) f c c' d d' → Goes g img low high l at n s x b (i + 1) c' d'
  goes_turn i c c' d d' f inv ef h k y =
      let front = ranged (node_at g img) low high (l - 1) f in
      let back = rest g img low high l at n (i + 1) in
      let both : within c (rest g img low high l at n i) ≡ within c front ++ within c' back =
      ap (within c) (rest_turn g img low high l at n i f ef h k) ∙ within_both c c' front back y.count in
      record {
        count = inv.count ∙ rw both (let q = length-append (within c front) (within c' back) in let z = y.count in
            omega (arith, q, z));
        buffer = inv.buffer ∙ rw both (put_append d c (within c front) (within c' back)
            ∙ rw (← y.count, ← y.buffer) refl);
      }

pub lists_same : (g : Geometry) (img : List ℕ) (low high l : ℕ) (e : Entry) (x r : ℕ) (b d : List ℕ)
    → Lists g img low high l e x r b d → length d ≡ length b
lists_same g img low high l e x r b d y = pairs_same b d x (within x (ranged (node_at g img) low high l e)) y.buffer

-- ---- a tree
take_most : {A : Type 0} (n : ℕ) (es : List A) → length (take n es) ≤ n
take_most n es = rw (length-take n es) (omega arith)

module _ (g : Geometry) (img : List ℕ) (l p low high x : ℕ) (b d : List ℕ)
    (y : Lists g img low high (l + 1) (naming p) 0 x b d) where
  whole : List Entry
  whole = take pairs_most (ranged_of (chip_with g img l p) low high)

  tree_is : within 0 (ranged (node_at g img) low high (l + 1) (naming p)) ≡ whole
  unfolding within whole
  tree_is = rw (add-one l) refl

  tree_count : x ≡ length whole
  tree_count = y.count ∙ rw tree_is (omega arith)

  tree_most : x ≤ pairs_most
  unfolding whole
  tree_most = rw tree_count (take_most pairs_most (ranged_of (chip_with g img l p) low high))

  pub tree_exist : Fits w32 x
  tree_exist = let h = tree_most in record { fits = omega (arith, h) }

  pub tree_written : (w m : ℕ) → w ≡ min x m → Fits w32 w
  tree_written w m e = let h = tree_most in record { fits = omega (arith, h) }

  pub tree_done : (w : ℕ) → w ≡ min x (length d / 2)
      → told (Done x w 0) d ≡ as_outcome (lists (take pairs_most (ranged_of (chip_with g img l p) low high)) b)
  unfolding whole
  tree_done w ew =
      let q : x ≡ length whole = tree_count in
      let f : d ≡ put_pairs b 0 whole = y.buffer ∙ rw tree_is refl in
      let len : length d ≡ length b = pairs_same b d 0 whole f in
      let v : w ≡ written_of whole b = ew ∙ rw (q, len) refl in
      (λ i. told (Done (q i) (v i) 0) ((f ∙ put_all whole b) i))

-- ---- a judged image
module _ (g : Geometry) (n : ℕ) (img : List ℕ) (low high : ℕ) (j : Judgement) (t u : List ℕ) (x : Judged g n img j t u)
  where
    pub listed_broken : (r p : ℕ) (b : List ℕ) → j.verdict ≡ broken_at r p
        → told (Damaged r p) b ≡ as_outcome (listed_in g n img low high b)
    unfolding listed_in by_verdict
    listed_broken r p b e = sym (simp (← x.verdict, e))

    pub listed_sound : (b : List ℕ) (o : Outcome) → Known g → j.verdict ≡ Sound
        → o ≡ as_outcome (lists (take pairs_most (ranged_of (chip_with g img j.survey.level j.survey.root) low
        high))
        b) → o ≡ as_outcome (listed_in g n img low high b)
    unfolding listed_in by_verdict
    listed_sound b o known e f =
        let most = most_pairs_lem g n img low high known (sym x.verdict ∙ e) in
        f ∙ ap (λ (c : Chip). as_outcome (lists (take pairs_most (ranged_of c low high)) b)) (chip_is g n img j.survey x.survey)
        ∙ ap (λ (es : List Entry). as_outcome (lists es b)) (take_all pairs_most (ranged_of (chip_of g n img) low high) most)
        ∙ sym (simp (← x.verdict, e))

module _ (g : Geometry) (img : List ℕ) (low high n : ℕ) (b : List ℕ) (en : n ≡ good_blocks g img) where
  pub list_length : n ≡ 0 → told Length b ≡ as_outcome (listing g img low high b)
  unfolding listing judged
  list_length z = sym (simp (none_good g img n en z))

  pub list_blocks : (o : Outcome) → (n ≡ 0 → ⊥) → o ≡ as_outcome (listed_in g n img low high b)
      → o ≡ as_outcome (listing g img low high b)
  unfolding listing judged listed_in
  list_blocks o h e = e ∙ sym (simp (some_good g img n en h, ← (some_blocks g img n en h)))

pub known_pages : (g : Geometry) → Known g → g.pages ≤ 64
known_pages g known = (shape g known).pages_high

pub ruleset listing_laws = (put_in_lem, put_out, below_count, below_buffer, pair_count, pair_buffer, lists_full, lists_pair, lists_past, lists_above, goes_start, goes_turn, lists_same, pairs_same, tree_exist, tree_written, tree_done, listed_broken, listed_sound, list_length, list_blocks, known_pages)
