-- The blobs that a log in memory keeps stay held by the messages that held them first.
use Rattle.std.proofs.Common.{◌≡◌, ◌||◌, ◌==◌, ℕ, zero, suc, Bool, true, false, cond, nat_le, Option, Some, None, List, [], ◌∷◌, ◌++◌, length, take, map, pos, ℤ, refl, sym, ◌∙◌, ap, subst}
use Rattle.std.specs.Ordering.{int_eq}
use Rattle.std.specs.List.{slice_get, list_any}
use Rattle.std.specs.Str.{bytes_eq}
use Rattle.std.proofs.lemmas.Bool.{and_parts, and_from, eqb-true, eq-eqb, false≢true}
use Rattle.std.proofs.lemmas.Bool.Decides.{Decides-int_eq}
use Rattle.std.proofs.lemmas.Slice.Eq.{bytes_eq-Decides}
use Rattle.std.proofs.lemmas.List.{append-nil, append_assoc, take-map}
use Rattle.std.proofs.lemmas.List.Folds.{list_any-append}
use Rattle.sled_base.specs.Kinds.{byte_of, kind_of, kind_of_byte_of}
use Rattle.sled_base.specs.declared.kinds.MessageKind.{MessageKind}
use Rattle.sled_base.specs.declared.types.DiskPtr.{DiskPtr}
use Rattle.sled_base.specs.declared.types.DiskPtr.TheVariants.{Inline, Blob}
use Rattle.sled_log.specs.Inside.Blobs.{marks_of, is_own, is_first, is_held_at, is_held, are_held}
use Rattle.sled_log.specs.Inside.Items.{item_settled_at, items_settled_at, item_after_restart}
use Rattle.sled_log.specs.MemLog.Stored.{payload_of, pointer_of}
use Rattle.sled_log.specs.declared.memory.item.Held.{Held}
use Rattle.sled_log.specs.MemLog.Kept.{KeptChange, Mark, LogItem}
use Rattle.sled_log.specs.MemLog.Kept as kept

any-more : (p : Mark → Bool) (marks others : List Mark) → list_any p marks ≡ true → list_any p (marks ++ others) ≡ true
any-more p marks others h = list_any-append p marks others ∙ ap (λ b. b || list_any p others) h

or-last : (a b : Bool) → b ≡ true → (a || b) ≡ true
or-last true b h = refl
or-last false b h = h

any-last : (p : Mark → Bool) (mark : Mark) (marks : List Mark) → p mark ≡ true → list_any p (marks ++ mark ∷ []) ≡ true
any-last p mark [] h = ap (λ b. b || false) h
any-last p mark (x ∷ marks) h = or-last (p x) (list_any p (marks ++ mark ∷ [])) (any-last p mark marks h)

at-more : (marks others : List Mark) (change : KeptChange) (pointer : DiskPtr) → is_held_at marks change pointer ≡ true → is_held_at (marks ++ others) change pointer ≡ true
at-more marks others change (Inline place) h = refl
at-more marks others change (Blob place blob) h = any-more (is_first blob change.kind change.payload) marks others h

-- one more that is held
pub held-push : (before marks : List Mark) (x : Mark) → are_held before marks ≡ true → is_held (before ++ marks ++ x ∷ []) x ≡ true → are_held before (marks ++ x ∷ []) ≡ true
held-push before [] x h last = and_from (is_held (before ++ x ∷ []) x) true (subst (λ (l : List Mark). is_held (l ++ x ∷ []) x ≡ true) (append-nil before) last) refl
held-push before (m ∷ marks) x h last =
    let a = and_parts (is_held (before ++ m ∷ []) m) (are_held (before ++ m ∷ []) marks) h in
    and_from (is_held (before ++ m ∷ []) m) (are_held (before ++ m ∷ []) (marks ++ x ∷ [])) a.0
    (held-push (before ++ m ∷ []) marks x a.1 (subst (λ (l : List Mark). is_held (l ++ x ∷ []) x ≡ true) (sym (append_assoc before (m ∷ []) marks)) last))

held-take : (n : ℕ) (before marks : List Mark) → are_held before marks ≡ true → are_held before (take n marks) ≡ true
held-take zero before marks h = refl
held-take (suc n) before [] h = refl
held-take (suc n) before (m ∷ marks) h =
    let a = and_parts (is_held (before ++ m ∷ []) m) (are_held (before ++ m ∷ []) marks) h in
    and_from (is_held (before ++ m ∷ []) m) (are_held (before ++ m ∷ []) (take n marks)) a.0 (held-take n (before ++ m ∷ []) marks a.1)

-- one that is there is held by one of all
held-at : (before : List Mark) (items : List LogItem) (i : ℕ) (item : LogItem) (change : KeptChange) → are_held before (marks_of items) ≡ true → slice_get items i ≡ Some item → item.mark ≡ kept.Change change
    → is_held_at (before ++ marks_of items) change change.pointer ≡ true
held-at before [] i item change h is marked = absurd cc
held-at before (x ∷ items) zero item change h is marked =
    let a = and_parts (is_held (before ++ x.mark ∷ []) x.mark) (are_held (before ++ x.mark ∷ []) (marks_of items)) h in
    let it : x ≡ item = cc in
    let same : x.mark ≡ kept.Change change = ap (λ (y : LogItem). y.mark) it ∙ marked in
    subst (λ (l : List Mark). is_held_at l change change.pointer ≡ true) (append_assoc before (x.mark ∷ []) (marks_of items))
    (at-more (before ++ x.mark ∷ []) (marks_of items) change change.pointer (subst (λ (m : Mark). is_held (before ++ x.mark ∷ []) m ≡ true) same a.0))
held-at before (x ∷ items) (suc i) item change h is marked =
    let a = and_parts (is_held (before ++ x.mark ∷ []) x.mark) (are_held (before ++ x.mark ∷ []) (marks_of items)) h in
    subst (λ (l : List Mark). is_held_at l change change.pointer ≡ true) (append_assoc before (x.mark ∷ []) (marks_of items)) (held-at (before ++ x.mark ∷ []) items i item change a.1 is marked)

-- the first that passes a test
any-get : (p : Mark → Bool) (items : List LogItem) → list_any p (marks_of items) ≡ true → (i : ℕ) × (item : LogItem) × (slice_get items i ≡ Some item) × (p item.mark ≡ true)
any-get p [] h = absurd (false≢true h)
any-get p (x ∷ items) h = by (any-get p items) (p x.mark) refl
  where
    by : (list_any p (marks_of items) ≡ true → (i : ℕ) × (item : LogItem) × (slice_get items i ≡ Some item) × (p item.mark ≡ true)) → (b : Bool) → p x.mark ≡ b → (i : ℕ) × (item : LogItem) × (slice_get (x ∷ items) i ≡ Some item) × (p item.mark ≡ true)
    by rest true is = (zero, x, refl, is)
    by rest false is = let got = rest (sym (ap (λ b. b || list_any p (marks_of items)) is) ∙ h) in (suc got.0, got.1, got.2, got.3)

own-is : (blob : ℤ) (pointer : DiskPtr) → is_own blob pointer ≡ true → (place : ℕ) × (pointer ≡ Blob place blob) × (blob ≡ pos place)
own-is blob (Inline place) h = absurd (false≢true h)
own-is blob (Blob place named) h =
    let a = and_parts (int_eq named blob) (int_eq blob (pos place)) h in
    (place, ap (λ (n : ℤ). Blob place n) ((Decides-int_eq named blob).0 a.0), (Decides-int_eq blob (pos place)).0 a.1)

-- what the message is that held a blob first
first-is : (blob : ℤ) (kind : MessageKind) (payload : List ℕ) (mark : Mark) → is_first blob kind payload mark ≡ true
    → (first : KeptChange) × (place : ℕ) × (mark ≡ kept.Change first) × (first.pointer ≡ Blob place blob) × (blob ≡ pos place) × (first.kind ≡ kind) × (first.payload ≡ payload)
first-is blob kind payload (kept.Change first) h =
    let a = and_parts (is_own blob first.pointer) _ h in
    let b = and_parts (byte_of first.kind == byte_of kind) (bytes_eq first.payload payload) a.1 in
    let own = own-is blob first.pointer a.0 in
    let same : first.kind ≡ kind = sym (kind_of_byte_of first.kind) ∙ ap kind_of (eqb-true (byte_of first.kind) (byte_of kind) b.0) ∙ kind_of_byte_of kind in
    (first, own.0, refl, own.1, own.2, same, (bytes_eq-Decides first.payload payload).0 b.1)
first-is blob kind payload kept.Pin h = absurd (false≢true h)
first-is blob kind payload kept.Seal h = absurd (false≢true h)
first-is blob kind payload kept.Cancel h = absurd (false≢true h)

-- where it stands among the items
pub first-stands : (blob : ℤ) (kind : MessageKind) (payload : List ℕ) (items : List LogItem) → list_any (is_first blob kind payload) (marks_of items) ≡ true
    → (i : ℕ) × (item : LogItem) × (first : KeptChange) × (place : ℕ) × (slice_get items i ≡ Some item) × (item.mark ≡ kept.Change first) × (first.pointer ≡ Blob place blob) × (blob ≡ pos place) × (first.kind ≡ kind) × (first.payload ≡ payload)
first-stands blob kind payload items h =
    let got = any-get (is_first blob kind payload) items h in
    let first = first-is blob kind payload got.1.mark got.3 in
    (got.0, got.1, first.0, first.1, got.2, first.2, first.3, first.4, first.5, first.6)

-- a message that is kept as a blob is held
pub blob-first : (items : List LogItem) (i : ℕ) (item : LogItem) (change : KeptChange) (place : ℕ) (blob : ℤ) → are_held [] (marks_of items) ≡ true → slice_get items i ≡ Some item → item.mark ≡ kept.Change change → change.pointer ≡ Blob place blob
    → list_any (is_first blob change.kind change.payload) (marks_of items) ≡ true
blob-first items i item change place blob h is marked at = subst (λ (p : DiskPtr). is_held_at (marks_of items) change p ≡ true) at (held-at [] items i item change h is marked)

marks-map_settled : (moment : ℕ) (items : List LogItem) → marks_of (map (item_settled_at moment) items) ≡ marks_of items
marks-map_settled moment [] = refl
marks-map_settled moment (x ∷ items) = ap (λ (l : List Mark). x.mark ∷ l) (marks-map_settled moment items)

pub marks-settled : (moment stable : ℕ) (items : List LogItem) → marks_of (items_settled_at moment stable items) ≡ marks_of items
marks-settled moment zero items = marks-map_settled moment items
marks-settled moment (suc stable) [] = refl
marks-settled moment (suc stable) (x ∷ items) = ap (λ (l : List Mark). x.mark ∷ l) (marks-settled moment stable items)

pub marks-restarted : (items : List LogItem) → marks_of (map item_after_restart items) ≡ marks_of items
marks-restarted [] = refl
marks-restarted (x ∷ items) = ap (λ (l : List Mark). x.mark ∷ l) (marks-restarted items)

-- what a crash leaves
pub held-stopped : (n : ℕ) (items : List LogItem) → are_held [] (marks_of items) ≡ true → are_held [] (marks_of (map item_after_restart (take n items))) ≡ true
held-stopped n items h =
    subst (λ (l : List Mark). are_held [] l ≡ true) (take-map (λ (item : LogItem). item.mark) n items ∙ sym (marks-restarted (take n items))) (held-take n [] (marks_of items) h)

-- a message that holds its own payload
own-first : (kind : MessageKind) (pid : ℕ) (payload : List ℕ) (place : ℕ) → (let change : KeptChange = record { kind = kind; pid = pid; payload = payload; lsn = pos place; pointer = Blob place (pos place) } in is_first (pos place) kind payload (kept.Change change) ≡ true)
own-first kind pid payload place =
    and_from _ _ (and_from _ _ ((Decides-int_eq (pos place) (pos place)).1 refl) ((Decides-int_eq (pos place) (pos place)).1 refl))
    (and_from _ _ (eq-eqb (byte_of kind) (byte_of kind) refl) ((bytes_eq-Decides payload payload).1 refl))

own : (marks : List Mark) (kind : MessageKind) (pid : ℕ) (payload : List ℕ) (place : ℕ) (b : Bool)
    → (let change : KeptChange = record { kind = kind; pid = pid; payload = payload; lsn = pos place; pointer = cond b (Inline place) (Blob place (pos place)) } in is_held (marks ++ kept.Change change ∷ []) (kept.Change change) ≡ true)
own marks kind pid payload place true = refl
own marks kind pid payload place false = any-last (is_first (pos place) kind payload) _ marks (own-first kind pid payload place)

-- each message that is put there is held
pub held-put : (marks : List Mark) (bytes : List ℕ) (limit place : ℕ) (kind : MessageKind) (pid : ℕ) (payload : List ℕ) (blob : Option Held)
    → ((named : Held) → blob ≡ Some named → list_any (is_first named.first kind (payload_of bytes payload (Some named))) marks ≡ true)
    → (let change : KeptChange = record { kind = kind; pid = pid; payload = payload_of bytes payload blob; lsn = pos place; pointer = pointer_of limit place payload blob } in is_held (marks ++ kept.Change change ∷ []) (kept.Change change) ≡ true)
held-put marks bytes limit place kind pid payload None h = own marks kind pid payload place (nat_le (length payload) limit)
held-put marks bytes limit place kind pid payload (Some named) h = any-more (is_first named.first kind (payload_of bytes payload (Some named))) marks _ (h named refl)
