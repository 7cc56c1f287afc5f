-- Insert and delete by the record and the table: the outcome is the model's, the record is that of the image that is
-- left, and the words are those worked out afresh from it. Assumes nothing.
use Rattle.std.specs.Prelude.{◌≡◌, List, [], ◌∷◌, ◌++◌, Bool, is_none}
use Rattle.std.proofs.Math.Path.{refl, ap, sym}
use Rattle.std.proofs.Common.{◌∙◌, arith}
use Rattle.std.proofs.Math.Bool.{true, false}
use Prim.Native.Nat.{ℕ, suc, ◌+◌, ◌-◌, ◌*◌, ◌<◌, ◌≤◌}
use Rattle.std.proofs.Math.Dec.{ltb}
use Rattle.geometry.specs.declared.Geometry.{Geometry}
use Rattle.geometry.specs.declared.Entry.{Entry}
use Rattle.geometry.specs.Tests.{pick, ◌&◌}
use Rattle.geometry.specs.Shape.{Shape, shape_core}
use Rattle.geometry.specs.Bounds.{four_bytes}
use Rattle.model.specs.Count.{count}
use Rattle.model.specs.Image.{pages_of, max_seq, Chip, chip_of}
use Rattle.model.specs.Tree.{places_of, live, sought}
use Rattle.model.specs.Stores.{Store, apply_all}
use Rattle.model.specs.Edit.{put, remove}
use Rattle.model.specs.Collect.{collect_stores}
use Rattle.model.specs.Update.{needs, too_high, side_page, delete_store, insert_stores, delete_stores}
use Rattle.model.specs.Calls.{Outcome, refused, made, worn, roomless, free_pages, insert_rest, delete_rest}
use Rattle.theory_chips.specs.Whole.{some_page}
use Rattle.theory_chips.specs.Insertion.{Fuller}
use Rattle.theory_images.specs.Held.{height_most}
use Rattle.theory_images.specs.Few.{Few}
use Rattle.live_words.specs.Words.{block_words, words_of}
use Rattle.live_words.specs.Live.{live_words}
use Rattle.live_words.specs.Ones.{all_ones_lem}
use Rattle.live_words.specs.Filled.{told_filled}
use Rattle.open_record.specs.declared.Opened.{Opened}
use Rattle.open_record.specs.Opened.{opened_in, chip_by}
use Rattle.live_beside.specs.Beside.{page_by}
use Rattle.live_beside.specs.Beside.{Held as Kept}
use Rattle.live_beside.specs.Collect.{collect_by}
use Rattle.live_beside.specs.Update.{Returned, returned, made_by, insert_crest, own_by, crest_by, insert_made, free_by, roomless_by, refused_by, insert_by, delete_store_at, delete_crest, delete_made, delete_by}
use Rattle.theory_updates.specs.Along.{Keeps}
use Rattle.theory_updates.specs.Updated.{Stands}
use Rattle.theory_updates.specs.Level.{chip_right}
use Rattle.theory_updates.specs.Lists.{program_most, not_worn, numbers, roomy, m_top, m_some, one_top}
use Rattle.theory_updates.proofs.Lists.{insert_keeps, insert_low, insert_collected, insert_updated, insert_stands, delete_keeps, delete_collected, delete_low, delete_updated}
use Rattle.theory_updates.specs.CollectBy.{Tells}
use Rattle.theory_updates.proofs.CollectBy.{collect_same}
use Rattle.theory_updates.specs.Made.{updated_cautious, updated_held}
use Rattle.theory_updates.specs.OwnBy.{own_by_lem, crest_by_lem, page_by_lem}
use Rattle.theory_updates.specs.Records.{record_made_lem, made_by_lem}
use Rattle.theory_updates.specs.Room.{room_same}

module _ (g : Geometry) (shape : Shape g) (n : ℕ) (few : pages_of g n + g.pages < four_bytes) (base : List Entry)
    (img : List ℕ)
    (keeps : Keeps g n base img) (some_pages : 1 ≤ pages_of g n) (whole : g.pages ≡ 32 * block_words g)
    (h : Kept) (tells : Tells g n img h)
    (nodes : Few g) (tall : g.top ≤ g.pages) where
  abbrev c : Chip
  c = chip_of g n img

  abbrev words : List ℕ
  words = h.table.words

  -- what is left after an outcome
  abbrev left : Outcome → Returned
  left o = returned o (opened_in g n o.image) (live_words g n o.image words)

  -- the words as they were are those of the image as it was
  words_are : words ≡ live_words g n img words
  unfolding live_words
  words_are = sym (told_filled (live (places_of c)) (words_of g n) words tells.right.told)

  refused_is : (answer : ℕ) → refused_by answer h img ≡ left (refused answer img)
  refused_is answer = λ i. returned (refused answer img) (tells.at_is i) (words_are i)

  chip_is : chip_by g img h.at ≡ c
  chip_is = ap (chip_by g img) tells.at_is ∙ chip_right g (shape_core g shape) n img keeps.held

  worn_is : ltb g.worn h.at.most ≡ worn g n img
  unfolding opened_in worn
  worn_is = ap (λ (o : Opened). ltb g.worn o.most) tells.at_is

  module _ (k a al : ℕ) (k_low : k < four_bytes) (a-low : a < four_bytes) where
    abbrev m : ℕ
    m = needs g c k

    abbrev puts : List Store
    puts = insert_stores g n img k a

    -- the call for m pages
    abbrev from : ℕ → Returned
    from m =
        let r = collect_by g n m (suc m) h img in
        made_by g n (r.stores ++ own_by g n r.image r.kept.at m k a) r.kept.at m (crest_by g n r.image r.kept.at m k a) al img words

    insert_made_lem : max_seq g n img ≤ g.worn → too_high g c k ≡ false → roomless g (free_pages g n c) m ≡ false
        → from m ≡ left (made g puts al img)
    unfolding insert_stores
    insert_made_lem w y z =
        let most = m_top g shape n few base img keeps w some_pages k a k_low a-low y z in
        let some = m_some g shape n few base img keeps w some_pages k a k_low a-low y z in
        let s = collect_same g shape n few base whole m (suc m) img h keeps (roomy g shape n few base img keeps w m some z)
        (numbers g shape n few base img keeps w m most).0 tells in
        let first = collect_stores g n m (suc m) img in
        let then = apply_all g first img in
        let d = chip_of g n then in
        let held = (insert_keeps g shape n few base img keeps w some_pages k a k_low a-low y z).held in
        let room = insert_collected g shape n few base img keeps w some_pages k a k_low a-low y z in
        let high = height_most g (shape_core g shape) n then some_pages held in
        let levels : suc d.level ≤ count (pages_of g n) d.er = omega (arith, high, tall, room) in
        let enough : m ≤ count (pages_of g n) d.er = omega (arith, room) in
        let at : (collect_by g n m (suc m) h img).kept.at ≡ opened_in g n then =
        s.tells.at_is ∙ ap (opened_in g n) s.image_is in
        let own = own_by_lem g shape n then held m k a levels some enough in
        let crest = crest_by_lem g shape n then held m k a levels some enough in
        let u = insert_updated g shape n few base img keeps w some_pages k a k_low a-low y z in
        let low = insert_low g shape n few base img keeps w some_pages k a k_low a-low y z in
        let t = insert_crest g d (side_page g n d) m k a in
        let goes = record_made_lem g n then (apply_all g puts img) m t (insert_stands g shape n few base img keeps w some_pages k a k_low a-low y z)
        u.end.held (omega (arith, low)) in
        (λ i. made_by g n (s.stores_are i ++ own_by g n (s.image_is i) (at i) m k a) (at i) m (crest_by g n (s.image_is i) (at i) m k a) al img words)
        ∙ (λ i. made_by g n (first ++ own i) (opened_in g n then) m (crest i) al img words)
        ∙ made_by_lem g shape nodes n some_pages puts img (updated_cautious g n (Fuller g m c) base (put k a base) img puts (program_most g m) (suc m) u)
        (updated_held g n (Fuller g m c) base (put k a base) img puts (program_most g m) (suc m) u) (opened_in g n then) m t goes al words

    room_is : roomless_by g n h m ≡ roomless g (free_pages g n c) m
    unfolding opened_in
    room_is =
        let f : free_by g n h.table ≡ free_pages g n c =
        ap (λ l. pages_of g n - l) (all_ones_lem g (live (places_of c)) n words whole tells.right.told) in
        (λ i. ltb 1 m & roomless g (tells.at_is i).erased m & roomless g (f i) m)
        ∙ room_same g n c keeps.held.whole (some_page g (shape_core g shape)) keeps.r8 m

    pub inserts : insert_by g n h img k a al ≡ left (insert_rest g n img k a al)
    unfolding insert_by insert_made insert_rest
    inserts =
        (λ i. pick (worn_is i) (refused_by 3 h img) (pick (too_high g (chip_is i) k) (refused_by 5 h img)
        (pick (roomless_by g n h (needs g (chip_is i) k)) (refused_by 6 h img) (from (needs g (chip_is i) k)))))
        ∙ ap (λ (b : Bool). pick (worn g n img) (refused_by 3 h img) (pick (too_high g c k) (refused_by 5 h img) (pick b (refused_by 6 h img) (from m)))) room_is
        ∙ go (worn g n img) (too_high g c k) (roomless g (free_pages g n c) m) refl refl refl
      where
        go : (x y z : Bool) → worn g n img ≡ x → too_high g c k ≡ y → roomless g (free_pages g n c) m ≡ z
            → pick x (refused_by 3 h img) (pick y (refused_by 5 h img) (pick z (refused_by 6 h img) (from m)))
            ≡ left (pick x (refused 3 img) (pick y (refused 5 img) (pick z (refused 6 img) (made g puts al img))))
        go true y z u v d = refused_is 3
        go false true z u v d = refused_is 5
        go false false true u v d = refused_is 6
        go false false false u v d = insert_made_lem (not_worn g n img u) v d

  module _ (k al : ℕ) (k_low : k < four_bytes) where
    abbrev takes : List Store
    takes = delete_stores g n img k

    delete_made_lem : max_seq g n img ≤ g.worn → is_none (sought c k) ≡ false
        → delete_made g n h img k al ≡ left (made g takes al img)
    unfolding delete_made delete_stores delete_store delete_store_at opened_in
    delete_made_lem w present =
        let s = collect_same g shape n few base whole 1 2 img h keeps (let z = keeps.r8 in omega (arith, z))
        (numbers g shape n few base img keeps w 1 (one_top g shape n few base img keeps w some_pages k k_low present)).0 tells in
        let first = collect_stores g n 1 2 img in
        let then = apply_all g first img in
        let d = chip_of g n then in
        let held = (delete_keeps g shape n few base img keeps w some_pages k k_low present).held in
        let room = delete_collected g shape n few base img keeps w some_pages k k_low present in
        let at : (collect_by g n 1 2 h img).kept.at ≡ opened_in g n then =
        s.tells.at_is ∙ ap (opened_in g n) s.image_is in
        let page = page_by_lem g shape n then held (omega (arith, room)) in
        let chip = chip_right g (shape_core g shape) n then held in
        let u = delete_updated g shape n few base img keeps w some_pages k k_low present in
        let low = delete_low g shape n few base img keeps w some_pages k k_low present in
        let t = delete_crest d (side_page g n d 1) k in
        let Z = Stands g n d 1 t in
        let goes = record_made_lem g n then (apply_all g takes img) 1 t u.also u.end.held (omega (arith, low)) in
        (λ i. made_by g n (s.stores_are i ++ (delete_store_at g (at i).most (chip_by g (s.image_is i) (at i))
        (page_by g n (s.image_is i) (at i) 0) k ∷ [])) (at i) 1
        (delete_crest (chip_by g (s.image_is i) (at i)) (page_by g n (s.image_is i) (at i) 0) k) al img words)
        ∙ (λ i. made_by g n (first ++ (delete_store_at g (max_seq g n then) (chip i) (page i) k ∷ [])) (opened_in g n then) 1
        (delete_crest (chip i) (page i) k) al img words)
        ∙ made_by_lem g shape nodes n some_pages takes img (updated_cautious g n Z base (remove k base) img takes (program_most g 1) 2 u)
        (updated_held g n Z base (remove k base) img takes (program_most g 1) 2 u) (opened_in g n then) 1 t goes al words

    pub deletes : delete_by g n h img k al ≡ left (delete_rest g n img k al)
    unfolding delete_by delete_rest
    deletes =
        (λ i. pick (worn_is i) (refused_by 3 h img) (pick (is_none (sought (chip_is i) k)) (refused_by 4 h img) (delete_made g n h img k al)))
        ∙ go (worn g n img) (is_none (sought c k)) refl refl
      where
        go : (x y : Bool) → worn g n img ≡ x → is_none (sought c k) ≡ y
            → pick x (refused_by 3 h img) (pick y (refused_by 4 h img) (delete_made g n h img k al))
            ≡ left (pick x (refused 3 img) (pick y (refused 4 img) (made g takes al img)))
        go true y u v = refused_is 3
        go false true u v = refused_is 4
        go false false u v = delete_made_lem (not_worn g n img u) v
