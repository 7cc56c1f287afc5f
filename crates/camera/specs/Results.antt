-- What the C calls leave, in the form in which the code has the premises. Assumes nothing.
use Rattle.std.specs.Prelude.{◌≡◌, refl, List, [], ◌∷◌, ℕ, ◌+◌, ◌-◌, ◌*◌, ◌≤◌, ◌<◌, length, drop, get_or}
use Rattle.std.proofs.Common.{sym, ◌∙◌, arith, add-one, length-set, drop_of_length-le, drop-cons, lt-ltb, le-ltb}
use Rattle.std.proofs.Math.Path.{ap}
use Rattle.model.specs.Page.{put_u32}
use Rattle.model.specs.Calls.{Outcome}
use Rattle.call_answers.specs.declared.Answer.{Answer}
use Rattle.call_answers.specs.declared.Row.{Row}
use Rattle.call_answers.specs.Answers.{row_of, told_by, told}
use Rattle.live_words.specs.Live.{Reply, reply}
use Rattle.camera.specs.Camera.{put_numbers, numbers_of, report_row, report_of, returned, words_left}

-- ---- the loop that puts six numbers: what is to come leads to the whole. vs the numbers, i of them put, d the buffer
pub put_go : (w m d vs : List ℕ) (i v : ℕ) → w ≡ put_numbers m (4 * i) (drop i vs) → d ≡ put_u32 m (4 * i) v
    → v ≡ get_or vs i 0 → length vs ≡ 6 → i < 6
    → w ≡ put_numbers d (4 * (i + 1)) (drop (i + 1) vs)
unfolding put_numbers
put_go w m d vs i v e f ev len h =
    let at : 4 * i + 4 ≡ 4 * (i + 1) = omega arith in
    e ∙ rw (← at, add-one, drop-cons vs i 0 (omega (arith, len, h)), ← ev, f)

pub put_end : (w m vs : List ℕ) (i : ℕ) → w ≡ put_numbers m (4 * i) (drop i vs) → length vs ≡ 6 → 6 ≤ i → m ≡ w
unfolding put_numbers
put_end w m vs i e len h = sym (e ∙ rw (drop_of_length-le vs {i = i} (omega (arith, len, h))))

length_numbers : (b : List ℕ) (at : ℕ) (vs : List ℕ) → length (put_numbers b at vs) ≡ length b
unfolding put_numbers put_u32
length_numbers b at [] = refl
length_numbers b at (v ∷ vs) = length_numbers (put_u32 b at v) (at + 4) vs ∙ simp length-set

pub put_same : (b d vs ws : List ℕ) (i j : ℕ) → put_numbers b i vs ≡ put_numbers d j ws → length d ≡ length b
put_same b d vs ws i j e = sym (length_numbers d j ws) ∙ ap length (sym e) ∙ length_numbers b i vs

pub row_is : (w : Row) (b d : List ℕ) → d ≡ put_numbers b 0 (numbers_of (told_by w [])) → d ≡ report_row w b
unfolding report_row
row_is w b d e = e

pub report_is : (a : Answer) (w : Row) (b d : List ℕ) → d ≡ report_row w b → w ≡ row_of a → d ≡ report_of a b
report_is a w b d e f = e ∙ ap (λ (x : Row). report_row x b) f

pub report_number : (a : Answer) (w : Row) (n : ℕ) → n ≡ w.answer → w ≡ row_of a → n ≡ (row_of a).answer
report_number a w n e f = e ∙ ap (λ (x : Row). x.answer) f

-- a buffer that is too short
module _ (o : Outcome) (img buf : List ℕ) (h : length buf < 24) where
  pub short_answer : 1 ≡ (returned o img buf).answer
  unfolding returned
  short_answer = rw (lt-ltb _ _ h)

  pub short_image : img ≡ (returned o img buf).image
  unfolding returned
  short_image = rw (lt-ltb _ _ h)

  pub short_result : buf ≡ (returned o img buf).result
  unfolding returned
  short_result = rw (lt-ltb _ _ h)

-- a call made, o its outcome
module _ (o : Outcome) (img out buf : List ℕ) (w : Row) (e : told_by w out ≡ o) (h : 24 ≤ length buf) where
  pub row_answer : (n : ℕ) → n ≡ w.answer → n ≡ (returned o img buf).answer
  unfolding returned
  row_answer n f = rw (le-ltb _ _ h) (f ∙ ap (λ (x : Outcome). x.answer) e)

  pub row_image : out ≡ (returned o img buf).image
  unfolding returned
  row_image = rw (le-ltb _ _ h) (ap (λ (x : Outcome). x.image) e)

  pub row_result : (b : List ℕ) → b ≡ report_row w buf → b ≡ (returned o img buf).result
  unfolding returned report_row
  row_result b f = rw (le-ltb _ _ h) (f ∙ ap (λ (x : Outcome). put_numbers buf 0 (numbers_of x)) e)

module _ (o : Outcome) (img out buf : List ℕ) (a : Answer) (e : told a out ≡ o) (h : 24 ≤ length buf) where
  pub made_answer : (n : ℕ) → n ≡ (row_of a).answer → n ≡ (returned o img buf).answer
  made_answer n f = row_answer o img out buf (row_of a) e h n f

  pub made_image : out ≡ (returned o img buf).image
  made_image = row_image o img out buf (row_of a) e h

  pub made_result : (b : List ℕ) → b ≡ report_of a buf → b ≡ (returned o img buf).result
  made_result b f = row_result o img out buf (row_of a) e h b f

-- a call with lent words, r its reply
pub short_live : (r : Reply) (old buf : List ℕ) → length buf < 24 → old ≡ words_left r old buf
unfolding words_left
short_live r old buf h = rw (lt-ltb _ _ h)

module _ (r : Reply) (img out ws buf : List ℕ) (a : Answer) (e : reply (told a out) ws ≡ r) (h : 24 ≤ length buf) where
  outcome_is : told a out ≡ r.outcome
  outcome_is = ap (λ (x : Reply). x.outcome) e

  pub lent_answer : (n : ℕ) → n ≡ (row_of a).answer → n ≡ (returned r.outcome img buf).answer
  lent_answer n f = made_answer r.outcome img out buf a outcome_is h n f

  pub lent_image : out ≡ (returned r.outcome img buf).image
  lent_image = made_image r.outcome img out buf a outcome_is h

  pub lent_live : (old : List ℕ) → ws ≡ words_left r old buf
  unfolding words_left
  lent_live old = rw (le-ltb _ _ h) (ap (λ (x : Reply). x.words) e)

  pub lent_result : (b : List ℕ) → b ≡ report_of a buf → b ≡ (returned r.outcome img buf).result
  lent_result b f = made_result r.outcome img out buf a outcome_is h b f

pub ruleset camera_laws = (put_go, put_end, put_same, row_is, report_is, report_number, short_answer, short_image, short_result, made_answer, made_image, made_result)

-- of calls with lent words
pub ruleset lent_laws = (short_answer, short_image, short_live, short_result, lent_answer, lent_image, lent_live, lent_result)

-- of calls that give a row
pub ruleset row_laws = (short_answer, short_image, short_result, row_answer, row_image, row_result)
