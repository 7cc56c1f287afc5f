-- Request 13, "Carry an index across", about the definitions `importing` and `exporting` of crate text_carrying: what they
-- give for every image and text, and on images of bytes. `text_of`, `read_text`, `exports` are of that crate; Ready,
-- map_at, Holds are the words of the demands, `Stored` and `sum_of` stand in Stored and Sums. `Known g`: the small chip
-- or the large one. Assumes nothing.
use Rattle.std.specs.Prelude.{◌≡◌, List, [], ◌++◌, true, ℕ, ◌+◌, ◌<◌, ◌≤◌, length, take, drop}
use Rattle.std.proofs.Math.Path.{refl}
use Rattle.std.proofs.Common.{ap, sym, subst, ◌∙◌, arith, lit≤, take_all}
use Rattle.geometry.specs.declared.Geometry.{Geometry}
use Rattle.geometry.specs.declared.Entry.{Entry}
use Rattle.geometry.specs.Shape.{Known, is_small, is_large}
use Rattle.geometry.proofs.Shape.{shape}
use Rattle.model.specs.Bytes.{byte_at}
use Rattle.model.specs.Image.{blocks_of, good_length}
use Rattle.model.specs.Stores.{apply_all}
use Rattle.model.specs.Update.{format_stores}
use Rattle.model.specs.Calls.{Outcome, gives, format}
use Rattle.text_decimals.specs.Decimals.{largest}
use Rattle.text_carrying.specs.Carrying.{text_of, records, read_text, word, exports, exporting, counted, store_all, import_read, importing}
use Rattle.text_carrying.specs.Back.{text_short, text_of_read, read_rises, read_few}
use Rattle.theory_images.specs.Lengths.{good_blocks_lem}
use Rattle.theory_demands.specs.Words.{map_at, Holds, programmed_most, erased_most}
use Rattle.theory_demands.specs.Builds.{stores_most, format_holds}
use Rattle.theory_demands.specs.Stored.{Stored}
use Rattle.theory_demands.proofs.Stored.{stored_all}
use Rattle.theory_demands.specs.Sums.{Limits, sum_of}
use Rattle.theory_demands.proofs.Sums.{sums}
use Rattle.theory_demands.specs.Carrying.{export_exports, exports_all}

module _ (g : Geometry) (img text : List ℕ) where
  import_records : (es : List Entry) → good_length g img ≡ true → read_text text ≡ records es
      → importing g img text ≡ store_all g (format g img) es
  unfolding importing import_read
  import_records es e b = rw (e, b) refl

known_worn : (g : Geometry) → Known g → 1 ≤ g.worn
known_worn _ is_small = lit≤ tt
known_worn _ is_large = lit≤ tt

known_stores : (g : Geometry) → Known g → stores_most g ≤ largest
known_stores _ is_small = lit≤ tt
known_stores _ is_large = lit≤ tt

known_programmed : (g : Geometry) → Known g → programmed_most g ≤ 1000
known_programmed _ is_small = lit≤ tt
known_programmed _ is_large = lit≤ tt

known_erased : (g : Geometry) → Known g → erased_most g ≤ 1000
known_erased _ is_small = lit≤ tt
known_erased _ is_large = lit≤ tt

module _ (g : Geometry) (known : Known g) (img text : List ℕ) (length_good : good_length g img ≡ true) (bytes : (i : ℕ)
    → byte_at img i < 256)
    (es : List Entry) (is : read_text text ≡ records es) where
  abbrev new : List ℕ
  new = (format g img).image

  formatted : format g img ≡ gives 0 0 1 (blocks_of g img) (apply_all g (format_stores g (blocks_of g img)) img)
  unfolding format
  formatted = rw length_good refl

  few : length es ≤ 4096
  few = read_few text es is

  -- the image is sound and holds the text's first records, as many as are told; all of them where the answer is 0
  pub import_stored : Stored g es (importing g img text)
  import_stored = subst (Stored g es) (sym (import_records g img text es length_good is))
      (stored_all g (shape g known) es [] 0 (format g img) (read_rises text es is) tt
      (format_holds g (shape g known) (known_worn g known) img length_good bytes)
      (ap (λ (o : Outcome). o.answer) formatted) (ap (λ (o : Outcome). o.address) formatted) (let f = few in
      omega (arith, f)))

  -- pages programmed and blocks erased: format's, 1 and B, and those of the inserts up to a refused one
  module _ (count : Outcome → ℕ) (first : ℕ) (adds : (s o : Outcome) → count (counted s o) ≡ word (count s + count o))
      (limits : (o : Outcome) → Limits g o → count o ≤ 1000) (begins : count (format g img)
      ≡ first) (low : first ≤ 1024) where
    import_count : count (importing g img text) ≡ first + sum_of g count new es
    import_count =
        ap count (import_records g img text es length_good is)
        ∙ sums g (shape g known) (known_stores g known) count 1000 adds limits es 0 (format g img) (read_rises text es is)
        (format_holds g (shape g known) (known_worn g known) img length_good bytes).ready (ap (λ (o : Outcome). o.answer) formatted)
        (let f = few in omega (arith, f, begins, low))
        ∙ ap (λ (m : ℕ). m + sum_of g count new es) begins

  pub import_programmed : (importing g img text).programmed ≡ 1 + sum_of g (λ o. o.programmed) new es
  unfolding counted
  import_programmed = import_count (λ o. o.programmed) 1 (λ s o. refl) (λ o l. let k = known_programmed g known in
      let m = l.programmed in omega (arith, k, m))
      (ap (λ (o : Outcome). o.programmed) formatted) (omega arith)

  pub import_erased : (importing g img text).erased ≡ blocks_of g img + sum_of g (λ o. o.erased) new es
  unfolding counted
  import_erased = import_count (λ o. o.erased) (blocks_of g img) (λ s o. refl) (λ o l. let k = known_erased g known in
      let m = l.erased in omega (arith, k, m))
      (ap (λ (o : Outcome). o.erased) formatted) (good_blocks_lem g img length_good).most

  -- so a finished import leaves a sound image that holds the text's records
  pub import_done : (importing g img text).answer ≡ 0 → Holds g es (importing g img text).image
  import_done h = subst (λ (xs : List Entry). Holds g xs (importing g img text).image)
      (ap (λ (m : ℕ). take m es) (import_stored.whole h)
      ∙ take_all (length es) es (omega arith)) import_stored.holds

  -- "Export of what a finished import made is the same text"
  pub carried : (importing g img text).answer ≡ 0 → text_of (map_at g (importing g img text).image) ≡ text
  carried h = ap text_of (import_done h).map_is ∙ text_of_read text es is

  -- so says the call: records, bytes of the text, and the text in a buffer that takes it
  pub carried_call : (buffer : List ℕ) → (importing g img text).answer ≡ 0 → length text ≤ length buffer
      → exporting g (importing g img text).image buffer ≡ gives 0 (length es) (length text) (length text)
      (text ++ drop (length text) buffer)
  carried_call buffer h room =
      let map = (import_done h).map_is in
      let same = text_of_read text es is in
      let short = text_short 0 es (read_rises text es is) in
      let f = few in
      let w : word (length text) ≡ length text = let l = ap length same in omega (arith, l, short, f) in
      export_exports g (importing g img text).image buffer (import_done h).ready
      ∙ ap (λ (xs : List Entry). exports xs buffer) map
      ∙ exports_all es buffer (subst (λ (t : List ℕ). length t ≤ length buffer) (sym same) room)
      ∙ (λ i. gives 0 (length es) (word (length (same i))) (word (length (same i))) (same i ++ drop (length (same i)) buffer))
      ∙ (λ i. gives 0 (length es) (w i) (w i) (text ++ drop (length text) buffer))
