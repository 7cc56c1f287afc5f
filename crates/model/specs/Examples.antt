-- Worked examples of the definitions by computation: nodes, single pages built and read back, and codes. Assumes
-- nothing.
use Rattle.std.specs.Prelude.{◌≡◌, refl, List, [], ◌∷◌, Bool, true, false, replicate, ℕ, zero, suc, ◌+◌, ◌-◌, ◌*◌}
use Rattle.geometry.specs.declared.Entry.{Entry}
use Rattle.geometry.specs.Geometry.{small, plain, page_base, first_slot, slots_of, half, root_slots, in_table}
use Rattle.geometry.specs.Tests.{bit, ◌&◌}
use Rattle.model.specs.Bytes.{u32_at, blank, erased, seq_at, height_at, count_at, tail_at, entries_at, node_place, node_count, node_at}
use Rattle.model.specs.Codes.{◌⊕◌, is_set, xor_below, number_e, number_g, fresh_code, code_at, put_code, fits}
use Rattle.model.specs.Count.{least}
use Rattle.model.specs.Image.{Nodes, Chip}
use Rattle.model.specs.Tree.{gather, places, halve, place, chosen, leaf, find, find_in}
use Rattle.model.specs.Next.{round, next_block, taken, nth}
use Rattle.model.specs.Page.{put_u32, put_entry, put_entries, put_level, put_levels, numbered, coded, sealed, built, only}
use Rattle.model.specs.Edit.{splice, edited, on_path, put, put_in, path_half, side_half, two, named, path_part, remove_in, kept, collapse, renamed, same, gains}
use Rattle.model.specs.Listing.{between, written_of}
use Rattle.model.specs.Plain.{plain_grows, plain_high}

-- n pairs from key b on, each with its key for an address
abbrev run : ℕ → ℕ → List Entry
run b zero = []
run b (suc n) = record { key = b; addr = b } ∷ run (suc b) n

abbrev pair : ℕ → ℕ → Entry
pair k a = record { key = k; addr = a }

-- key 64: page 0 takes leaf 1 to 32, page 1 takes leaf 33 to 64 and root 1 names 0, 33 names 1
key_64_path : path_half 64 32 (put 64 64 (run 1 63)) ≡ run 33 32
key_64_path = refl

key_64_side : side_half 64 32 (put 64 64 (run 1 63)) ≡ run 1 32
key_64_side = refl

key_64_root : two 64 1 0 32 1 (put 64 64 (run 1 63)) ≡ pair 1 0 ∷ pair 33 1 ∷ []
key_64_root = refl

-- the tree that key 64 leaves
abbrev after_64 : Nodes
after_64 zero l = run 1 32
after_64 (suc p) zero = []
after_64 (suc p) (suc zero) = run 33 32
after_64 (suc p) (suc (suc l)) = pair 1 0 ∷ pair 33 1 ∷ []

-- key 65: page 2 takes 33 to 48, page 3 takes 49 to 65 and the root 1, 33, 49 naming 0, 2, 3
key_65_root : edited after_64 65 (put_in 65 65) (named 65 3 (λ l. 2) (half small)) 1 (pair 0 1)
    ≡ pair 1 0 ∷ pair 33 2 ∷ pair 49 3 ∷ []
unfolding edited slots_of splice chosen place halve put_in
key_65_root = refl

key_65_leaf : on_path after_64 65 (put_in 65 65) (named 65 3 (λ l. 2) (half small)) 1 (pair 0 1) 1 ≡ run 33 33
unfolding on_path edited splice chosen place halve put_in
key_65_leaf = refl

key_65_halves : (path_part 65 (half small) 1 (run 33 33) ≡ run 49 17) ×
    (side_half 65 (half small 1) (run 33 33) ≡ run 33 16)
unfolding slots_of
key_65_halves = (refl, refl)

-- a key below all enters the first leaf, which splits; the first key above is lowered to it
lowering : edited after_64 0 (put_in 0 9) (named 0 3 (λ l. 2) (half small)) 1 (pair 0 1)
    ≡ pair 0 3 ∷ pair 16 2 ∷ pair 33 1 ∷ []
unfolding edited slots_of splice chosen place halve put_in
lowering = refl

-- a root of two leaves with one pair each, on pages 4 and 5
abbrev thin : Nodes
thin zero l = pair 10 4 ∷ pair 20 5 ∷ []
thin (suc p) l = pair (10 * (p - 2)) 7 ∷ []

-- collapse: the leaf of 20 vanishes with its entry, and the other leaf becomes the root
shrinks : collapse thin 1 (edited thin 20 (remove_in 20) (kept 6) 1 (pair 0 0))
    ≡ record { level = 0; list = pair 10 7 ∷ [] }
unfolding edited collapse splice chosen place halve remove_in
shrinks = refl

-- a move renames the path's entry and keeps the rest
moves : on_path after_64 33 same (renamed 1 9) 1 (pair 0 1) 2 ≡ pair 1 0 ∷ pair 33 9 ∷ []
unfolding on_path edited splice chosen place halve put_in
moves = refl

-- the live pages of the tree, and the lowest live level of its root's page
lives : places after_64 2 (pair 0 1)
    ≡ record { page = 1; level = 2 } ∷ record { page = 0; level = 1 } ∷ record { page = 1; level = 1 } ∷ []
unfolding places gather
lives = refl

-- with pages 0 to 63 of 96 programmed, the next pages are 64 and 65
abbrev half_full : ℕ → Bool
half_full p = lib.Dec.leb 64 p

pages_to_come : (nth 32 3 (record { er = half_full; last = 63 }) 0 ≡ 64) ×
    (nth 32 3 (record { er = half_full; last = 63 }) 1 ≡ 65)
unfolding taken next_block round least ◌&◌
pages_to_come = (refl, refl)

-- key 64: block 0 was erased, page 63 has the largest number, so pages 64 and 65 follow; after page 95 it goes round to
-- page 0
abbrev first_and_last : ℕ → Bool
first_and_last p = Rattle.geometry.specs.Tests.pick (lib.Dec.leb 64 p) true (lib.Dec.leb (p + 1) 32)

key_64_pages : (nth 32 3 (record { er = first_and_last; last = 63 }) 0 ≡ 64) ×
    (nth 32 3 (record { er = first_and_last; last = 63 }) 1 ≡ 65)
    × (nth 32 3 (record { er = λ p. lib.Dec.leb (p + 1) 32; last = 95 }) 0 ≡ 0)
unfolding taken next_block round least ◌&◌
key_64_pages = (refl, refl, refl)

-- one page built and read back: a leaf of two pairs under a root of one
abbrev sample : List ℕ
sample = built small 66 2 (λ j. only 1 (run 33 2) j)

read_back : (node_at small sample 0 1 ≡ run 33 2) × (node_at small sample 0 2 ≡ []) × (seq_at small sample 0 ≡ 66) ×
    (height_at small sample 0 ≡ 2)
    × (tail_at small sample 0 ≡ true) × (erased small sample 0 ≡ false)
unfolding built sealed coded put_code numbered put_levels put_level put_entries put_entry put_u32 node_at node_count node_place entries_at u32_at blank seq_at height_at count_at tail_at erased page_base first_slot root_slots in_table ◌&◌
read_back = (refl, refl, refl, refl, refl, refl)

-- request 1: of the keys 10 to 14 those from 11 to 13, both taken in; five numbers have room for two pairs
listing : (between 11 13 (run 10 5) ≡ run 11 3) × (written_of (run 11 3) (replicate 5 0) ≡ 2)
unfolding between ◌&◌
listing = (refl, refl)

-- request 12: a plain tree with 64 entries in each node; key 0 is absent
abbrev full : ℕ → Chip
full level = record { er = λ p. false; seq = λ p. 1; nodes = λ p l. run 1 64; level = level; root = 0 }

-- at height 5 a new root would need height 6, at height 4 it has a level left
plain_height : (bit (plain_high plain (full 4) 0) ≡ 1) × (bit (plain_high plain (full 3) 0) ≡ 0)
unfolding plain_high plain_grows gains leaf find find_in halve place chosen slots_of ◌&◌
plain_height = (refl, refl)

-- an erased half and its erased code
pub erased_fits : fits (replicate 259 255) 0 256 ≡ true
unfolding fits code_at fresh_code number_e number_g is_set xor_below ◌⊕◌
erased_fits = refl

-- the bytes 7, 0, 128 and 253 times 1: an odd number of set bits, so that E and G differ
pub four_bytes_lem : fresh_code (7 ∷ 0 ∷ 128 ∷ replicate 253 1) 0 ≡ 12609523
unfolding fresh_code number_e number_g is_set xor_below ◌⊕◌
four_bytes_lem = refl
