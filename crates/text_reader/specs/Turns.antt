-- A text read turn by turn, 4,096 turns, is read as the definition has it. Assumes nothing.
use Prim.Native.Nat.{ℕ, zero, suc, ◌+◌, ◌-◌, ◌<◌, ◌≤◌}
use Rattle.std.specs.Prelude.{Bool, ◌≡◌, eqb, take, None, Option, Some}
use Rattle.std.proofs.Math.Bool.{true, false}
use Rattle.std.proofs.Math.Path.{refl, sym, ap, subst}
use Rattle.std.proofs.Common.{◌∙◌, zero-add, add-one, drop_of_length-le}
use mathlib.Core.List.{List, [], ◌∷◌}
use native.Mathlib.Omega.{arith}
use Rattle.std.proofs.Math.Dec.{leb, ltb}
use Rattle.std.proofs.Math.ListN.{length, drop, length-drop}
use Rattle.std.proofs.Math.Seq.{drop-drop}
use borrow.Author.Tests.{lt-ltb, le-ltb, eq-eqb, ne_eqb, ltb-true, ltb-false}
use Rattle.geometry.specs.declared.Entry.{Entry}
use Rattle.geometry.specs.Tests.{pick, ◌&◌}
use Rattle.text_lines.specs.Lines.{Pieces, pieces, fields, reach}
use Rattle.text_lines.specs.Pieces.{pieces_more, pieces_last}
use Rattle.text_carrying.specs.Carrying.{record_of, Reading, records, bad, with, most_records, read_line, read_rest, read_lines, read_text}
use Rattle.text_reader.specs.declared.Spot.{Spot}
use Rattle.text_reader.specs.declared.Turn.{Turn}
use Rattle.text_reader.specs.Reader.{no_pair, start, idle, refusal, taken, record_turn, line_of, line_turn, turn_of, spot_after, pairs_of, overlay}

-- what a text is read as, where the reader has come so far, with these pairs
unfoldable pub read_as : List ℕ → Spot → List Entry → Reading
read_as text t es = pick (eqb t.bad 0) (pick (ltb t.at (length text)) (bad (suc most_records)) (records es)) (bad t.bad)

-- what the lines from a place on are read as
abbrev read_from : List ℕ → Spot → Reading
read_from text s = read_lines s.count s.low (pieces 10 (drop s.at text)).ended (pieces 10 (drop s.at text)).rest

module _ (text : List ℕ) where
  -- a line is refused, or the text has ended: nothing more is read
  bad_turn : (s : Spot) → (s.bad ≡ 0 → ⊥) → turn_of text s ≡ idle s
  unfolding turn_of ◌&◌
  bad_turn s h = rw (ne_eqb s.bad 0 h) refl

  bad_stays : (n : ℕ) (s : Spot) → (s.bad ≡ 0 → ⊥) → spot_after text n s ≡ s
  unfolding spot_after
  bad_stays zero s h = refl
  bad_stays (suc n) s h = ap (λ (u : Turn). spot_after text n u.spot) (bad_turn s h) ∙ bad_stays n s h

  end_turn : (s : Spot) → length text ≤ s.at → turn_of text s ≡ idle s
  unfolding turn_of ◌&◌
  end_turn s h = rw (le-ltb s.at (length text) h) (go (eqb s.bad 0) (ltb s.count 4096))
    where
      go : (t u : Bool) → pick (t & u & false) (line_turn text s) (idle s) ≡ idle s
      go true true = refl
      go true false = refl
      go false u = refl

  end_stays : (n : ℕ) (s : Spot) → length text ≤ s.at → spot_after text n s ≡ s
  unfolding spot_after
  end_stays zero s h = refl
  end_stays (suc n) s h = ap (λ (u : Turn). spot_after text n u.spot) (end_turn s h) ∙ end_stays n s h

  end_reads : (s : Spot) → length text ≤ s.at → read_from text s ≡ records []
  unfolding read_lines read_rest pieces
  end_reads s h = rw (drop_of_length-le text h) refl

  -- the lines from a place on, by the first of them
  open_reads : (s : Spot) → s.at < length text → length text ≤ s.at + reach 10 (drop s.at text)
      → read_from text s ≡ bad (suc s.count)
  unfolding read_lines read_rest
  open_reads s h g =
      let w = length-drop s.at text in
      ap (λ (p : Pieces). read_lines s.count s.low p.ended p.rest) (pieces_last 10 (drop s.at text) (omega (arith, w, g)))
      ∙ some_rest (drop s.at text) (omega (arith, w, h))
    where
      some_rest : (bs : List ℕ) → 0 < length bs → read_rest s.count bs ≡ bad (suc s.count)
      some_rest [] h = absurd (omega arith)
      some_rest (b ∷ bs) h = refl

  -- the place after the line from a place
  abbrev after : Spot → ℕ
  after s = s.at + reach 10 (drop s.at text) + 1

  line_reads : (s : Spot) → s.at + reach 10 (drop s.at text) < length text
      → read_from text s ≡ read_line s.count s.low (record_of (fields (line_of text s.at)))
      (λ above. read_lines (suc s.count) above (pieces 10 (drop (after s) text)).ended (pieces 10 (drop (after s) text)).rest)
  unfolding read_lines
  line_reads s h =
      let bs = drop s.at text in
      let w = length-drop s.at text in
      let q : s.at + suc (reach 10 bs) ≡ after s = omega arith in
      let e : drop (suc (reach 10 bs)) bs ≡ drop (after s) text = drop-drop (suc (reach 10 bs)) s.at text
      ∙ ap (λ (m : ℕ). drop m text) q in
      ap (λ (p : Pieces). read_lines s.count s.low p.ended p.rest) (pieces_more 10 bs (omega (arith, w, h)))
      ∙ ap (λ (l : List ℕ). read_line s.count s.low (record_of (fields (take (reach 10 bs) bs)))
      (λ above. read_lines (suc s.count) above (pieces 10 l).ended (pieces 10 l).rest)) e

  -- line 4,097
  full_reads : (s : Spot) → s.count ≡ most_records → s.at < length text → read_from text s ≡ bad (suc most_records)
  unfolding read_line
  full_reads s c h = go (ltb (s.at + reach 10 (drop s.at text)) (length text)) refl ∙ ap (λ (m : ℕ). bad (suc m)) c
    where
      over : (o : Option Entry) (next : ℕ → Reading) → read_line s.count s.low o next ≡ bad (suc s.count)
      over None next = refl
      over (Some e) next = rw (le-ltb s.count most_records (omega (arith, c))) refl

      go : (t : Bool) → ltb (s.at + reach 10 (drop s.at text)) (length text) ≡ t
          → read_from text s ≡ bad (suc s.count)
      go true e = line_reads s (ltb-true _ _ e) ∙ over (record_of (fields (line_of text s.at))) _
      go false e = open_reads s h (ltb-false _ _ e)

  -- n turns after the turn u, from s on: the count does not fall, and the lines are read as the reader says
  abbrev Came : ℕ → Spot → Turn → Type 0
  Came n s u = (s.count ≤ (spot_after text n u.spot).count)
      × (read_from text s ≡ read_as text (spot_after text n u.spot) (take ((spot_after text n u.spot).count - s.count) (u.entry ∷ pairs_of text n u.spot)))

  came_bad : (n : ℕ) (s : Spot) → read_from text s ≡ bad (suc s.count) → Came n s (refusal s)
  unfolding read_as
  came_bad n s e =
      let q = bad_stays n (refusal s).spot (λ z. omega (arith, z)) in (
        subst (λ (t : Spot). s.count ≤ t.count) (sym q) (omega arith),
        e ∙ sym (ap (λ (t : Spot). read_as text t (take ((spot_after text n (refusal s).spot).count - s.count) (no_pair ∷ pairs_of text n (refusal s).spot))) q
            ∙ rw (ne_eqb (s.count + 1) 0 (λ z. omega (arith, z)), add-one) refl),
      )

  came_end : (n : ℕ) (s : Spot) → s.bad ≡ 0 → length text ≤ s.at → Came n s (idle s)
  unfolding read_as
  came_end n s z h =
      let q = end_stays n s h in (
        subst (λ (t : Spot). s.count ≤ t.count) (sym q) (omega arith),
        end_reads s h ∙ sym (ap (λ (t : Spot). read_as text t (take (t.count - s.count) (no_pair ∷ pairs_of text n s))) q
            ∙ (let d : s.count - s.count ≡ 0 = omega arith in
            rw (eq-eqb s.bad 0 z, le-ltb s.at (length text) h, d) refl)),
      )

  -- one record more before what is read
  with_as : (e : Entry) (t : Spot) (es : List Entry) → with e (read_as text t es) ≡ read_as text t (e ∷ es)
  unfolding read_as with
  with_as e t es = go (eqb t.bad 0) (ltb t.at (length text))
    where
      go : (x y : Bool) → with e (pick x (pick y (bad (suc most_records)) (records es)) (bad t.bad)) ≡ pick x
          (pick y (bad (suc most_records)) (records (e ∷ es))) (bad t.bad)
      go true true = refl
      go true false = refl
      go false y = refl

  line_is : (s : Spot) → s.bad ≡ 0 → s.count < 4096 → s.at < length text → turn_of text s ≡ line_turn text s
  unfolding turn_of ◌&◌
  line_is s z c h = rw (eq-eqb s.bad 0 z, lt-ltb s.count 4096 c, lt-ltb s.at (length text) h) refl

  abbrev moved : Spot → Entry → Spot
  moved s e = record { at = after s; count = s.count + 1; low = e.key + 1; bad = 0 }

  -- a record that is read, and the turns after it
  came_more : (n : ℕ) (s : Spot) (e : Entry) → s.count < 4096 → leb s.low e.key ≡ true
      → read_from text s ≡ read_line s.count s.low (Some e) (λ above. read_lines (suc s.count) above
      (pieces 10 (drop (after s) text)).ended (pieces 10 (drop (after s) text)).rest)
      → ((moved s e).count ≤ (spot_after text n (moved s e)).count)
      × (read_from text (moved s e) ≡ read_as text (spot_after text n (moved s e))
      (take ((spot_after text n (moved s e)).count - (moved s e).count) (pairs_of text n (moved s e))))
      → Came n s (record { entry = e; spot = moved s e })
  unfolding read_line
  came_more n s e c k r ih =
      let t = spot_after text n (moved s e) in
      let i = ih.0 in
      let q : t.count - s.count ≡ suc (t.count - (s.count + 1)) = omega (arith, i) in (
        omega (arith, i),
        r ∙ rw (lt-ltb s.count most_records c, k) (rw (← (add-one s.count), ← (add-one e.key)) (ap (with e) ih.1
            ∙ with_as e t (take (t.count - (s.count + 1)) (pairs_of text n (moved s e))) ∙ ap (λ (m : ℕ). read_as text t
            (take m (e ∷ pairs_of text n (moved s e)))) (sym q))),
      )

  -- n turns from s on
  abbrev Reads : ℕ → Spot → Type 0
  Reads n s = (s.count ≤ (spot_after text n s).count)
      × (read_from text s ≡ read_as text (spot_after text n s) (take ((spot_after text n s).count - s.count) (pairs_of text n s)))

  came_line : (n : ℕ) (s : Spot) → s.bad ≡ 0 → s.count < 4096 → s.at < length text
      → ((e : Entry) → Reads n (moved s e)) → Came n s (line_turn text s)
  unfolding line_turn record_turn taken read_line
  came_line n s z c h ih = by_end (ltb (s.at + reach 10 (drop s.at text)) (length text)) refl
    where
      by_key : (e : Entry) → (t : Bool) → leb s.low e.key ≡ t
          → read_from text s ≡ read_line s.count s.low (Some e) (λ above. read_lines (suc s.count) above
          (pieces 10 (drop (after s) text)).ended (pieces 10 (drop (after s) text)).rest)
          → Came n s (pick t (record { entry = e; spot = moved s e }) (refusal s))
      by_key e true k r = came_more n s e c k r (ih e)
      by_key e false k r = came_bad n s (r ∙ rw (lt-ltb s.count most_records c, k) refl)

      by_record : (o : Option Entry)
          → read_from text s ≡ read_line s.count s.low o (λ above. read_lines (suc s.count) above
          (pieces 10 (drop (after s) text)).ended (pieces 10 (drop (after s) text)).rest)
          → Came n s (record_turn s (after s) o)
      by_record None r = came_bad n s r
      by_record (Some e) r = by_key e (leb s.low e.key) refl r

      by_end : (t : Bool) → ltb (s.at + reach 10 (drop s.at text)) (length text) ≡ t
          → Came n s (pick t (record_turn s (after s) (record_of (fields (line_of text s.at)))) (refusal s))
      by_end true e = by_record (record_of (fields (line_of text s.at))) (line_reads s (ltb-true _ _ e))
      by_end false e = came_bad n s (open_reads s h (ltb-false _ _ e))

  reads : (n : ℕ) (s : Spot) → s.bad ≡ 0 → s.count + n ≡ most_records → Reads n s
  unfolding read_as spot_after pairs_of
  reads zero s z c = (omega arith, go (ltb s.at (length text)) refl)
    where
      go : (t : Bool) → ltb s.at (length text) ≡ t → read_from text s ≡ read_as text s (take (s.count - s.count) [])
      go true e = full_reads s (omega (arith, c)) (ltb-true _ _ e) ∙ rw (eq-eqb s.bad 0 z, e) refl
      go false e =
          let d : s.count - s.count ≡ 0 = omega arith in
          end_reads s (ltb-false _ _ e) ∙ rw (eq-eqb s.bad 0 z, e, d) refl
  reads (suc n) s z c = go (ltb s.at (length text)) refl (λ e. reads n (moved s e) refl (omega (arith, c)))
    where
      go : (t : Bool) → ltb s.at (length text) ≡ t → ((e : Entry) → Reads n (moved s e)) → Came n s (turn_of text s)
      go true e ih = subst (Came n s) (sym (line_is s z (omega (arith, c)) (ltb-true _ _ e))) (came_line n s z (omega (arith, c)) (ltb-true _ _ e) ih)
      go false e ih = subst (Came n s) (sym (end_turn s (ltb-false _ _ e))) (came_end n s z (ltb-false _ _ e))

  -- the whole text: as many turns as there may be records
  pub read_turns : (n : ℕ) → n ≡ most_records → read_text text ≡ read_as text (spot_after text n start)
      (take (spot_after text n start).count (pairs_of text n start))
  read_turns n h =
      let q : (spot_after text n start).count - 0 ≡ (spot_after text n start).count = omega arith in
      (reads n start refl (zero-add n ∙ h)).1 ∙ ap (λ (m : ℕ). read_as text (spot_after text n start) (take m (pairs_of text n start))) q

  -- a turn reads at most one record
  turn_most : (s : Spot) → (turn_of text s).spot.count ≤ s.count + 1
  unfolding turn_of line_turn record_turn taken
  turn_most s = go (eqb s.bad 0 & ltb s.count 4096 & ltb s.at (length text)) (ltb (s.at + reach 10 (drop s.at text)) (length text))
      (record_of (fields (line_of text s.at)))
    where
      by_key : (e : Entry) (t : Bool) → (pick t (record { entry = e; spot = moved s e })
          (refusal s)).spot.count ≤ s.count + 1
      by_key e true = omega arith
      by_key e false = omega arith

      by_record : (o : Option Entry) → (record_turn s (after s) o).spot.count ≤ s.count + 1
      by_record None = omega arith
      by_record (Some e) = by_key e (leb s.low e.key)

      go : (x y : Bool) (o : Option Entry) → (pick x (pick y (record_turn s (after s) o) (refusal s))
          (idle s)).spot.count ≤ s.count + 1
      go true true o = by_record o
      go true false o = omega arith
      go false y o = omega arith

  pub count_most : (n : ℕ) (s : Spot) → (spot_after text n s).count ≤ s.count + n
  unfolding spot_after
  count_most zero s = omega arith
  count_most (suc n) s = let h = count_most n (turn_of text s).spot in let w = turn_most s in omega (arith, h, w)

  pub pairs_length : (n : ℕ) (s : Spot) → length (pairs_of text n s) ≡ n
  unfolding pairs_of
  pairs_length zero s = refl
  pairs_length (suc n) s = ap suc (pairs_length n (turn_of text s).spot)

pub overlay_all : (es ys : List Entry) → length es ≡ length ys → overlay es ys ≡ es
overlay_all [] [] h = refl
overlay_all [] (y ∷ ys) h = absurd (omega (arith, h))
overlay_all (e ∷ es) [] h = absurd (omega (arith, h))
overlay_all (e ∷ es) (y ∷ ys) h = ap (λ l. e ∷ l) (overlay_all es ys (omega (arith, h)))
