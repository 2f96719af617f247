-- What follows if a batch in which a file ends is marked as abandoned.
use Rattle.std.proofs.Common.{◌≡◌, ◌≢◌, inl, inr, ℕ, ◌+◌, ◌^◌, ◌<◌, false, List, [], ◌∷◌, ◌++◌, length, take, get_or, refl, ap, sym, ◌∙◌, subst, append_assoc, arith}
use Rattle.std.specs.Prelude.{Option, Some, None}
use Rattle.std.specs.List.{AllByRecursion}
use Rattle.std.proofs.lemmas.List.{length-append, append-nil, get_or_at}
use Rattle.sled_log.specs.Messages.{Entry, effect_of_entry}
use Rattle.sled_disk.specs.declared.recovery.head.Head.{Head}
use Rattle.sled_disk.specs.Abandoned.{abandoned_frame, place_of_begun, IsReadTo}
use Rattle.sled_disk.specs.RecoveredLogLaws.{read-stands}
use Rattle.sled_disk.specs.Crash.{IsClosed, IsShutOrOpened, IsWhole}
use Rattle.sled_disk.specs.AppendedFrame.{MayFollow, IsWritten}
use Rattle.sled_disk.specs.AppendedFrameLaws.{one-meaning, behind-gate, one-more}
use Rattle.sled_disk.specs.EncodingLaws.{number_bytes-length}
use Rattle.sled_disk.specs.Format.{◌>>=◌, opening, Record, Fits, Frame, Begun, outside, number_bytes, record_bytes, body, frames_bytes, closing_record, turn_by, turns, takes_change, takes_event, said_by, room_for, entry_at, Describes, DescribesTo, IsBytes}
use Rattle.sled_disk.specs.MeaningLaws.{Meant, Made, made_of, made_in, gate_after-is, frames_seen, frames-meant, StandsFor, IsMeant, same-room, record_bytes-length}
use Rattle.sled_disk.specs.RecoveredHeads.{AreRead}
use Rattle.sled_disk.specs.Reading.{Read, start, steps, head_at, effect_of_head, entry_in}
use Rattle.sled_disk.specs.RecoveredLog.{SameMeaning}
use Rattle.sled_disk.specs.LogContents.{or_start, progress_in, events_in, Stands}
use Rattle.sled_disk.specs.LogContentsLaws.{IsFile, file-read, file-more, file-parsed, says, stands}
use Rattle.sled_disk.specs.StepLaws.{closes-from}
use Rattle.sled_disk.specs.WholeLaws.{stepped}

module _ (seen : List ℕ) (gate : ℕ) (read : Read) (f : IsFile seen gate read) where
  -- its gate is closed
  pub file-closed : IsClosed gate seen
  file-closed =
      let front = opening ++ frames_bytes f.frames in
      let t = stepped gate read f.frames f.opened in
      let at : length front ≡ gate = length-append opening (frames_bytes f.frames) ∙ sym (gate_after-is 8 f.frames) ∙ t.ends in
      let file : seen ≡ front ++ 0 ∷ f.rest = f.is ∙ sym (append_assoc opening (frames_bytes f.frames) (0 ∷ f.rest)) in
      record {
        within = let e = ap length file in omega (arith, e, at, length-append front (0 ∷ f.rest));
        closed = ap (λ (l : List ℕ). get_or l gate 1) file ∙ get_or_at front 0 f.rest 1 gate at;
      }

  meant : IsMeant (entry_in seen) (said_by f.frames) read
  meant = frames-meant (entry_in seen) (λ head. refl) 8 (outside []) start read f.frames (frames_seen seen opening 8 f.frames (0 ∷ f.rest) f.is refl) refl (stepped gate read f.frames f.opened).turned

  same : meant.0 ≡ progress_in seen
  same = sym (ap or_start meant.1) ∙ says seen gate read f

  pub file-said : said_by f.frames ≡ Some (progress_in seen)
  file-said = meant.1 ∙ ap (λ (q : Meant). Some q) same

  pub file-for : StandsFor (entry_in seen) (progress_in seen) read
  file-for = subst (λ (q : Meant). StandsFor (entry_in seen) q read) same meant.2

  pub file-described : DescribesTo gate seen (events_in seen)
  file-described =
      let t = stepped gate read f.frames f.opened in
      record {
        frames = f.frames;
        each = f.each;
        rest = f.rest;
        is = f.is ∙ sym (append_assoc opening (frames_bytes f.frames) (0 ∷ f.rest));
        place = sym t.ends ∙ gate_after-is 8 f.frames ∙ sym (length-append opening (frames_bytes f.frames));
        begun = (progress_in seen).begun;
        small = subst (λ (n : ℕ). gate + n < 2 ^ 63) (sym (same-room (entry_in seen) (progress_in seen) read file-for)) t.small;
        meaning = file-said;
      }

  pub file-begun : file-described.begun ≡ (progress_in seen).begun
  unfolding file-described
  file-begun = refl

module _ (seen : List ℕ) (gate : ℕ) (read : Read) (f : IsFile seen gate read) where
  module _ (place : ℕ) (small : place < 2 ^ 64) (inside : List (ℕ × Head)) (begun : read.begun ≡ Some (record { place = place; inside = inside })) where
    abbrev closing : Record
    closing = closing_record 14 place

    abbrev only : List Record
    only = closing ∷ []

    long : length (body only) ≡ 25
    long = let n = number_bytes-length place in omega (arith, length-append (record_bytes closing) [], record_bytes-length closing, n)

    steps-closed : steps (gate + 9) read only ≡ Some (outside read.settled)
    unfolding turns
    steps-closed =
        ap (λ (b : Option (Begun Head)). turn_by head_at (takes_change effect_of_head) b read.settled (gate + 9) closing false >>= λ q. Some q) begun
        ∙ rw (closes-from place 14 small) refl

    -- the same for what the file describes
    meant-begun : (q : Option (Begun Entry)) (b : Option (Begun Head)) → (made_of (record { settled = []; begun = q })).begun ≡ (made_in (entry_in seen) (record { settled = []; begun = b })).begun → b ≡ Some (record { place = place; inside = inside })
        → (i : List (ℕ × Entry)) × (q ≡ Some (record { place = place; inside = i }))
    meant-begun None None e h = absurd cc
    meant-begun None (Some b) e h = absurd cc
    meant-begun (Some q) None e h = absurd cc
    meant-begun (Some q) (Some b) e h =
        let at : q.place ≡ place = ap (λ (x : Option (Begun Entry)). place_or 0 x) e ∙ ap (λ (x : Option (Begun Head)). place_or 0 x) h in
        (q.inside, ap (λ n. Some (record { place = n; inside = q.inside })) at)
      where
        place_or : {A : Type 0} → ℕ → Option (Begun A) → ℕ
        place_or n None = n
        place_or n (Some b) = b.place

    says-closed : turns entry_at (takes_event effect_of_entry) (gate + 9) (progress_in seen) only ≡ Some (outside (events_in seen))
    unfolding turns
    says-closed =
        let m = meant-begun (progress_in seen).begun read.begun (ap (λ (q : Made). q.begun) (file-for seen gate read f)) begun in
        ap (λ (b : Option (Begun Entry)). turn_by entry_at (takes_event effect_of_entry) b (events_in seen) (gate + 9) closing false >>= λ q. Some q) m.1
        ∙ rw (closes-from place 14 small) refl

    fit : AllByRecursion Fits only
    fit = (record { id = omega arith; payload = let n = number_bytes-length place in omega (arith, n) }, tt)

    end : gate + 34 < 2 ^ 63
    end = let t = (stepped gate read f.frames f.opened).small in subst (λ (b : Option (Begun Head)). gate + room_for b < 2 ^ 63) begun t

    some : only ≢ []
    some e = absurd cc

    written : (byte : ℕ) (rest after : List ℕ) → after ≡ take gate seen ++ byte ∷ (abandoned_frame place ++ rest) → IsWritten gate seen (record { gate = byte; records = only }) after
    written byte rest after is = (
      rest,
      is ∙ ap (λ (l : List ℕ). take gate seen ++ byte ∷ l)
          (append_assoc (number_bytes 25 ++ record_bytes closing) (0 ∷ []) rest
          ∙ ap (λ (l : List ℕ). (number_bytes 25 ++ l) ++ 0 ∷ rest) (sym (append-nil (record_bytes closing)))
          ∙ ap (λ n. (number_bytes n ++ body only) ++ 0 ∷ rest) (sym long)),
    )

    gate-is : gate + (9 + length (body only)) ≡ gate + 34
    gate-is = omega (arith, long)

    opened-means : (byte : ℕ) (rest after : List ℕ) → byte ≢ 0 → after ≡ take gate seen ++ byte ∷ (abandoned_frame place ++ rest) → Describes after (events_in seen)
    opened-means byte rest after opens is =
        let frame : Frame = record { gate = byte; records = only } in
        let follows : MayFollow gate (events_in seen) (progress_in seen).begun frame (events_in seen) = record {
          fits = record { gate = opens; some = some; fit = fit; length = omega (arith, long) };
          ends_in = None;
          says = says-closed;
          small = omega (arith, long, end);
        } in (
          gate + (9 + length (body only)),
          one-more gate seen (events_in seen) (events_in seen) frame after (file-described seen gate read f)
              (subst (λ (b : Option (Begun Entry)). MayFollow gate (events_in seen) b frame (events_in seen)) (sym (file-begun seen gate read f)) follows) (written byte rest after is),
        )

    -- a crash during that write leaves bytes that mean the same
    pub abandoned-means : (left : List ℕ) → IsShutOrOpened gate (abandoned_frame place) seen left → SameMeaning seen left
    abandoned-means left torn = (events_in seen, (gate, file-described seen gate read f), by torn)
      where
        by : IsShutOrOpened gate (abandoned_frame place) seen left → Describes left (events_in seen)
        by (inl shut) = (gate, behind-gate gate seen left (events_in seen) (file-described seen gate read f) shut)
        by (inr (byte, rest, opens, is)) = opened-means byte rest left opens is

    opens-one : ◌≢◌ {A = ℕ} 1 0
    opens-one e = absurd (omega (arith, e))

    pub abandoned-stands : (after : List ℕ) → IsWhole gate (abandoned_frame place) seen after → Stands after (gate + 34) false [] None read.settled
    abandoned-stands after (rest, is) =
        subst (λ n. Stands after n false [] None read.settled) gate-is
        (stands after (gate + (9 + length (body only))) false [] None read.settled
        (file-parsed after (gate + (9 + length (body only))) (outside read.settled)
        (file-more seen after gate read (outside read.settled) only 1 opens-one f steps-closed some fit (omega (arith, long, end)) (written 1 rest after is)) read.settled None refl refl))

    pub abandoned-says : (after : List ℕ) → IsWhole gate (abandoned_frame place) seen after → events_in after ≡ events_in seen
    abandoned-says after (rest, is) =
        let g = file-more seen after gate read (outside read.settled) only 1 opens-one f steps-closed some fit (omega (arith, long, end)) (written 1 rest after is) in
        one-meaning after (events_in after) (events_in seen) (gate + (9 + length (body only)), file-described after (gate + (9 + length (body only))) (outside read.settled) g) (opened-means 1 rest after opens-one is)

-- ---- in terms of what the code knows

some-place : (begun : Option (Begun Head)) (place : ℕ) → place_of_begun begun ≡ Some place → (inside : List (ℕ × Head)) × (begun ≡ Some (record { place = place; inside = inside }))
some-place None place is = absurd cc
some-place (Some b) place is =
    let at : b.place ≡ place = cc in (b.inside, ap (λ n. Some (record { place = n; inside = b.inside })) at)

none-place : (begun : Option (Begun Head)) → place_of_begun begun ≡ None → begun ≡ None
none-place None is = refl
none-place (Some b) is = absurd cc

module _ (seen : List ℕ) (gate : ℕ) (read : Read) (fits : IsBytes seen) where
  file-of : AreRead seen gate read → IsFile seen gate read
  file-of are = file-read seen gate read fits are.opens are.found

  pub read-closed : (begun : Option ℕ) → IsReadTo seen gate begun read → IsClosed gate seen
  read-closed begun to = file-closed seen gate read (file-of to.are)

  -- if nothing is written, what a crash leaves means the same
  pub same-means : (begun : Option ℕ) → IsReadTo seen gate begun read → (left : List ℕ) → left ≡ seen → SameMeaning seen left
  same-means begun to left is =
      let described : Describes seen (events_in seen) = (gate, file-described seen gate read (file-of to.are)) in
      (events_in seen, described, subst (λ (l : List ℕ). Describes l (events_in seen)) (sym is) described)

  pub none-stands : IsReadTo seen gate None read → Stands seen gate false [] None read.settled
  none-stands to = read-stands seen gate read fits to.are (none-place read.begun to.place)

  module _ (place : ℕ) (small : place < 2 ^ 64) (to : IsReadTo seen gate (Some place) read) where
    pub finish-means : (left : List ℕ) → IsShutOrOpened gate (abandoned_frame place) seen left → SameMeaning seen left
    finish-means = let i = some-place read.begun place to.place in abandoned-means seen gate read (file-of to.are) place small i.0 i.1

    pub finish-stands : (after : List ℕ) → IsWhole gate (abandoned_frame place) seen after → Stands after (gate + 34) false [] None read.settled
    finish-stands = let i = some-place read.begun place to.place in abandoned-stands seen gate read (file-of to.are) place small i.0 i.1

    pub finish-says : (after : List ℕ) → IsWhole gate (abandoned_frame place) seen after → events_in after ≡ events_in seen
    finish-says = let i = some-place read.begun place to.place in abandoned-says seen gate read (file-of to.are) place small i.0 i.1
