-- What waits in a disk whose caller reads and writes, before and after a call.
use Rattle.std.proofs.Common.{◌≡◌, ◌⊎◌, ℕ, zero, suc, ◌+◌, ◌-◌, ◌≤◌, ◌<◌, Bool, true, false, List, [], ◌∷◌, ◌++◌, length, take, drop, refl, sym, ◌∙◌, ap, ap₂, subst, ⊎_elim, inl, inr, arith}
use Rattle.std.specs.List.{All, AllByRecursion, sum_by}
use Rattle.std.proofs.lemmas.List.{length-drop, length-take, take-append-le, drop-append-le, take_all, append_assoc, append-nil, drop-drop}
use Rattle.std.proofs.lemmas.List.Sums.{sum_by-cons}
use Rattle.std.proofs.Math.Seq.{take-add}
use Rattle.sled_log.proofs.ChainLaws.{all-append}
use Rattle.sled_disk.specs.StagedReads.{LeavesBetween}
use Rattle.sled_disk.specs.Journal.{DiskCall}
use Rattle.sled_disk.specs.Tasks.{sync_if, write_if, writes_in, IsPart}
use Rattle.sled_disk.specs.declared.disk.staged.tasks.WaitingWrite.{WaitingWrite}

-- how many bytes writes have
abbrev pub len_of : List WaitingWrite → ℕ
len_of writes = sum_by (λ write. write.len) writes

-- A write that is added behind others stands behind them, if its bytes stand behind theirs.
pub writes_in-push : (writes : List WaitingWrite) (last : WaitingWrite) (bytes more : List ℕ) → len_of writes ≡ length bytes → last.len ≡ length more
    → writes_in (writes ++ last ∷ []) (bytes ++ more) ≡ writes_in writes bytes ++ sync_if last.sync_before ++ write_if last.again last.at more ∷ []
writes_in-push [] last [] more all len = ap (λ (l : List ℕ). sync_if last.sync_before ++ write_if last.again last.at l ∷ []) (take_all last.len more (omega (arith, len)))
writes_in-push [] last (byte ∷ bytes) more all len = absurd (omega (arith, all))
writes_in-push (first ∷ later) last bytes more all len =
    let sum : first.len + len_of later ≡ length bytes = sym (sum_by-cons (λ (w : WaitingWrite). w.len) first later) ∙ all in
    let le : first.len ≤ length bytes = omega (arith, sum) in
    let before = sync_if first.sync_before in
    let call = write_if first.again first.at (take first.len bytes) in
    let rest = writes_in later (drop first.len bytes) in
    let added = write_if last.again last.at more ∷ [] in
    ap₂ (λ (l : List ℕ) (calls : List DiskCall). before ++ write_if first.again first.at l ∷ calls) (take-append-le first.len bytes more le)
    (ap (writes_in (later ++ last ∷ [])) (drop-append-le first.len bytes more le) ∙ writes_in-push later last (drop first.len bytes) more (omega (arith, sum, length-drop first.len bytes)) len)
    ∙ sym (ap (λ (calls : List DiskCall). calls ++ added) (append_assoc before (call ∷ rest) (sync_if last.sync_before)) ∙ append_assoc before (call ∷ (rest ++ sync_if last.sync_before)) added)

-- The tasks after a write was added.
pub tasks-write : (writes reserved now : List WaitingWrite) (last : WaitingWrite) (bytes all more : List ℕ) (out : ℕ) → reserved ≡ writes → now ≡ reserved ++ last ∷ [] → all ≡ bytes ++ more
    → out + len_of writes ≡ length bytes → last.len ≡ length more
    → writes_in now (drop out all) ++ [] ≡ writes_in writes (drop out bytes) ++ sync_if last.sync_before ++ write_if last.again last.at more ∷ []
tasks-write writes reserved now last bytes all more out same pushed longer whole len =
    append-nil (writes_in now (drop out all))
    ∙ ap₂ (λ (w : List WaitingWrite) (l : List ℕ). writes_in w (drop out l)) (pushed ∙ ap (λ (w : List WaitingWrite). w ++ last ∷ []) same) longer
    ∙ ap (writes_in (writes ++ last ∷ [])) (drop-append-le out bytes more (omega (arith, whole)))
    ∙ writes_in-push writes last (drop out bytes) more (omega (arith, whole, length-drop out bytes)) len

-- The tasks after a part of the first write was handed out.
pub part-handed_out : (old now : List WaitingWrite) (first rest : WaitingWrite) (later : List WaitingWrite) (bytes buffer : List ℕ) (out len : ℕ) (last : Bool)
    → old ≡ first ∷ later → now ≡ rest ∷ later → first.sync_before ≡ false → rest.sync_before ≡ false → rest.again ≡ first.again → rest.at ≡ first.at + len → rest.len ≡ first.len - len
    → out + len_of old ≡ length bytes → len < first.len → take len buffer ≡ take len (drop out bytes) → len ≡ length buffer
    → IsPart first.again first.at len buffer (writes_in old (drop out bytes) ++ sync_if last) (writes_in now (drop (out + len) bytes) ++ sync_if last)
part-handed_out old now first rest later bytes buffer out len last was is none none_left kind at size whole less same full =
    let waiting = drop out bytes in
    let behind = drop len waiting in
    let left = first.len - len in
    let more = writes_in later (drop first.len waiting) ++ sync_if last in
    let sum : out + (first.len + len_of later) ≡ length bytes = ap (λ n. out + n) (sym (sum_by-cons (λ (w : WaitingWrite). w.len) first later) ∙ ap len_of (sym was)) ∙ whole in
    let has : first.len ≤ length waiting = omega (arith, sum, length-drop out bytes) in
    let adds : len + left ≡ first.len = omega (arith, less) in
    record {
      rest = take left behind;
      later = more;
      whole =
          ap (λ (w : List WaitingWrite). writes_in w waiting ++ sync_if last) was
          ∙ ap (λ (b : Bool). sync_if b ++ write_if first.again first.at (take first.len waiting) ∷ writes_in later (drop first.len waiting) ++ sync_if last) none
          ∙ ap (λ (l : List ℕ). write_if first.again first.at l ∷ more) (ap (λ n. take n waiting) (sym adds) ∙ take-add len left waiting ∙ ap (λ (l : List ℕ). l ++ take left behind) (sym same));
      left =
          ap₂ (λ (w : List WaitingWrite) (l : List ℕ). writes_in w l ++ sync_if last) is (sym (drop-drop len out bytes))
          ∙ ap (λ (b : Bool). sync_if b ++ write_if rest.again rest.at (take rest.len behind) ∷ writes_in later (drop rest.len behind) ++ sync_if last) none_left
          ∙ ap₂ (λ (n m : ℕ). write_if rest.again n (take m behind) ∷ (writes_in later (drop m behind) ++ sync_if last)) at size
          ∙ ap (λ (b : Bool). write_if b (first.at + len) (take left behind) ∷ (writes_in later (drop left behind) ++ sync_if last)) kind
          ∙ ap (λ (l : List ℕ). write_if first.again (first.at + len) (take left behind) ∷ (writes_in later l ++ sync_if last)) (drop-drop left len waiting ∙ ap (λ n. drop n waiting) adds);
      some = omega (arith, less, has, length-take left behind, length-drop len waiting);
      full = full;
    }

-- a first one that is as long
pub same-whole : (old now : List WaitingWrite) (first then : WaitingWrite) (later : List WaitingWrite) (out all : ℕ) → old ≡ first ∷ later → now ≡ then ∷ later → then.len ≡ first.len → out + len_of old ≡ all → out + len_of now ≡ all
same-whole old now first then later out all was is size whole =
    let before = ap len_of was ∙ sum_by-cons (λ (w : WaitingWrite). w.len) first later in
    let after = ap len_of is ∙ sum_by-cons (λ (w : WaitingWrite). w.len) then later in
    omega (arith, before, after, size, whole)

pub whole-part : (old now : List WaitingWrite) (first rest : WaitingWrite) (later : List WaitingWrite) (out len all : ℕ) → old ≡ first ∷ later → now ≡ rest ∷ later
    → rest.len ≡ first.len - len → len < first.len → out + len_of old ≡ all → out + len + len_of now ≡ all
whole-part old now first rest later out len all was is size less whole =
    let before = ap len_of was ∙ sum_by-cons (λ (w : WaitingWrite). w.len) first later in
    let after = ap len_of is ∙ sum_by-cons (λ (w : WaitingWrite). w.len) rest later in
    omega (arith, before, after, size, less, whole)

-- ---- where writes lie

-- all of these lie from one place up to another
abbrev pub LieBetween : ℕ → ℕ → List WaitingWrite → Type 0
LieBetween from to writes = All (λ write. (from ≤ write.at) × (write.at + write.len ≤ to)) writes

pub between-later : (from to : ℕ) (writes : List WaitingWrite) (first : WaitingWrite) (later : List WaitingWrite) → writes ≡ first ∷ later → LieBetween from to writes → LieBetween from to later
between-later from to writes first later is lie k d less = subst (LieBetween from to) is lie (suc k) d (omega (arith, less))

between-cons : (from to : ℕ) (first : WaitingWrite) (later : List WaitingWrite) → from ≤ first.at → first.at + first.len ≤ to → LieBetween from to later → LieBetween from to (first ∷ later)
between-cons from to first later begins ends lie zero d less = (begins, ends)
between-cons from to first later begins ends lie (suc k) d less = lie k d (omega (arith, less))

-- of the first one a part was taken away in front
pub between-part : (from to : ℕ) (writes now : List WaitingWrite) (first rest : WaitingWrite) (later : List WaitingWrite) → writes ≡ first ∷ later → now ≡ rest ∷ later
    → first.at ≤ rest.at → rest.at + rest.len ≤ first.at + first.len → LieBetween from to writes → LieBetween from to now
between-part from to writes now first rest later was is begins ends lie =
    let here = subst (LieBetween from to) was lie zero first (omega arith) in
    subst (LieBetween from to) (sym is) (between-cons from to rest later (omega (arith, begins, here.0)) (omega (arith, ends, here.1)) (between-later from to writes first later was lie))

leaves-sync : (from to : ℕ) (waits : Bool) → AllByRecursion (LeavesBetween from to) (sync_if waits)
leaves-sync from to true = (tt, tt)
leaves-sync from to false = tt

leaves-write : (from to : ℕ) (again : Bool) (at : ℕ) (bytes : List ℕ) → (at + length bytes ≤ from) ⊎ (to ≤ at) → LeavesBetween from to (write_if again at bytes)
leaves-write from to false at bytes apart = apart
leaves-write from to true at bytes apart = tt

leaves-writes : (low high from to : ℕ) (writes : List WaitingWrite) (bytes : List ℕ) → LieBetween low high writes → (high ≤ from) ⊎ (to ≤ low) → AllByRecursion (LeavesBetween from to) (writes_in writes bytes)
leaves-writes low high from to [] bytes lie apart = tt
leaves-writes low high from to (first ∷ later) bytes lie apart =
    let here = lie zero first (omega arith) in
    let leaves = leaves-write from to first.again first.at (take first.len bytes) (⊎_elim (λ before. inl (omega (arith, before, here.1, length-take first.len bytes))) (λ after. inr (omega (arith, after, here.0))) apart) in
    all-append (LeavesBetween from to) (sync_if first.sync_before) (write_if first.again first.at (take first.len bytes) ∷ writes_in later (drop first.len bytes)) (leaves-sync from to first.sync_before)
    (leaves, leaves-writes low high from to later (drop first.len bytes) (between-later low high (first ∷ later) first later refl lie) apart)

-- What lies apart from all writes that wait is changed by none of the tasks.
pub leaves-tasks : (low high from to : ℕ) (writes : List WaitingWrite) (bytes : List ℕ) (last : Bool) → LieBetween low high writes → (high ≤ from) ⊎ (to ≤ low)
    → AllByRecursion (LeavesBetween from to) (writes_in writes bytes ++ sync_if last)
leaves-tasks low high from to writes bytes last lie apart =
    all-append (LeavesBetween from to) (writes_in writes bytes) (sync_if last) (leaves-writes low high from to writes bytes lie apart) (leaves-sync from to last)
