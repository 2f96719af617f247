use Rattle.std.proofs.Common.{◌≡◌, ◌++◌, ◌∷◌, [], ℕ, List, length, drop, ◌∙◌, ap, arith}
use Rattle.std.proofs.lemmas.List.{drop_at}
use Rattle.sled_disk.specs.Abandoned.{abandoned_frame}
use Rattle.sled_disk.specs.EncodingLaws.{number_bytes-length}
use Rattle.sled_disk.specs.Format.{Record, mark_id, number_bytes, record_bytes, closing_record}
use Rattle.sled_disk.specs.MeaningLaws.{record_bytes-length}
use Rattle.sled_disk.specs.Pending.{frame_in}
use Rattle.sled_disk.proofs.recovery.abandoning.frame_of.Goals as goal

frame-is : (pad buffer payload : List ℕ) (place : ℕ) → length pad ≡ 8 → payload ≡ number_bytes place → buffer ≡ pad ++ record_bytes (record { kind = 14; id = mark_id; payload = payload }) → frame_in buffer ≡ abandoned_frame place
frame-is pad buffer payload place long bytes is =
    let r : Record = closing_record 14 place in
    let inner : drop 8 buffer ≡ record_bytes r = ap (drop 8) is ∙ drop_at pad (record_bytes (record { kind = 14; id = mark_id; payload = payload })) 8 long ∙ ap (λ (p : List ℕ). record_bytes (record { kind = 14; id = mark_id; payload = p })) bytes in
    let size : length (record_bytes r) ≡ 25 = let n = number_bytes-length place in omega (arith, record_bytes-length r, n) in
    ap (λ (d : List ℕ). (number_bytes (length d) ++ d) ++ 0 ∷ []) inner ∙ ap (λ n. (number_bytes n ++ record_bytes r) ++ 0 ∷ []) size

pub returns : goal.returns
returns c =
    c.close.ensures.items ∙ frame-is c.put.new.buffer.items c.push_record.new.buffer.items c.bytes_of.result c.args.begun (let l = c.put.ensures.len in let m = c.reserve.ensures.len in let n = c.new-frame.ensures.len in omega (arith, l, m, n)) c.bytes_of.ensures.bytes c.push_record.ensures.items
