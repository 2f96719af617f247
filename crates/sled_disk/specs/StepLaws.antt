-- What one more record makes, of each kind, after a file and its records.
use Rattle.std.proofs.Common.{◌≡◌, ℕ, ◌^◌, ◌<◌, Bool, true, false, List, [], ◌∷◌, ◌++◌, length, refl, ap, sym, ◌∙◌, arith}
use Rattle.std.specs.Prelude.{Option, Some, None, ◌==◌}
use Rattle.std.proofs.lemmas.Bool.{eqb-true, eq-eqb}
use Rattle.sled_base.specs.Kinds.{log_kind_of, byte_of, kind_of_byte_of}
use Rattle.sled_base.specs.declared.kinds.MessageKind.{MessageKind}
use Rattle.sled_base.specs.declared.kinds.MessageKind.TheVariants as kinds
use Rattle.sled_log.specs.Calls.{can_append}
use Rattle.sled_disk.specs.declared.recovery.head.Head.{Head}
use Rattle.sled_disk.specs.EncodingLaws.{number_bytes-length, number-again}
use Rattle.sled_disk.specs.Format.{◌>>=◌, Record, Begun, outside, within, is_closing, closes_from, begin_record, closing_record, taken, waits, plain, turn_by, takes_change, is_changing}
use Rattle.sled_disk.specs.Pending.{open_behind}
use Rattle.sled_disk.specs.Reading.{Read, step, step_head, head_at, effect_of_head}
use Rattle.sled_disk.specs.LogContents.{inside_of, begins_at, chains_now}

abbrev chains : Type 0
chains = List (List Head)

abbrev takes : chains → ℕ → Head → Option chains
takes = takes_change effect_of_head

-- with one more change
pub taken-more : (s t u : chains) (inside : List (ℕ × Head)) (id : ℕ) (e : Head) → taken head_at takes s inside ≡ Some t → takes t id e ≡ Some u → taken head_at takes s (inside ++ (id, e) ∷ []) ≡ Some u
taken-more s t u [] id e is one =
    let same : s ≡ t = cc in by (takes s id e) (ap (λ (l : chains). takes l id e) same ∙ one)
  where
    by : (x : Option chains) → x ≡ Some u → (x >>= λ t. Some t) ≡ Some u
    by None e = absurd cc
    by (Some t) e = e
taken-more s t u (change ∷ inside) id e is one = by (takes s change.0 change.1) (λ m. taken-more m t u inside id e) is
  where
    by : (x : Option chains) → ((m : chains) → taken head_at takes m inside ≡ Some t → takes t id e ≡ Some u → taken head_at takes m (inside ++ (id, e) ∷ []) ≡ Some u)
        → (x >>= λ m. taken head_at takes m inside) ≡ Some t → (x >>= λ m. taken head_at takes m (inside ++ (id, e) ∷ [])) ≡ Some u
    by None next h = absurd cc
    by (Some m) next h = next m h one

-- ---- the record of a message of a page

-- what was made of it, whether a batch has begun or not
pub record IsTaken (last : Read) (batch : Option ℕ) (place : ℕ) (r : Record) (mark : Bool) (heads : chains) : Type 0 where
  pub next : Read
  pub taken : step last place r mark ≡ Some next
  pub ends : begins_at batch next.begun ≡ true
  pub all : chains_now next ≡ Some heads

-- a record that begins or closes no batch, and is a change
pub record IsChange (kind : MessageKind) : Type 0 where
  pub begins : byte_of kind == 12 ≡ false
  pub closes : is_closing (byte_of kind) ≡ false
  pub own : byte_of kind < 14
  pub opens : (was : Bool) → open_behind was (byte_of kind) ≡ was
  pub is_plain : (s : chains) (place : ℕ) (r : Record) (mark : Bool) → plain head_at takes kind s place r mark ≡ (takes s r.id (head_at place r) >>= λ t. Some (outside t))
  pub waiting : (s : chains) (b : Begun Head) (id : ℕ) (e : Head) → waits head_at takes (log_kind_of kind) s b id e ≡ Some (within s b.place (b.inside ++ (id, e) ∷ []))
  pub stands : (heads : chains) (id : ℕ) (e : Head) → e.kind ≡ kind → step_head heads id e ≡ takes heads id e

pub changing : (kind : MessageKind) → is_changing (log_kind_of kind) ≡ true → IsChange kind
unfolding step_head
changing kinds.Free is = record { begins = refl; closes = refl; own = omega arith; is_plain = λ s place r mark. refl; waiting = λ s b id e. refl; opens = λ was. refl; stands = λ heads id e is. rw is refl }
changing kinds.Counter is = record { begins = refl; closes = refl; own = omega arith; is_plain = λ s place r mark. refl; waiting = λ s b id e. refl; opens = λ was. refl; stands = λ heads id e is. rw is refl }
changing kinds.InlineMeta is = record { begins = refl; closes = refl; own = omega arith; is_plain = λ s place r mark. refl; waiting = λ s b id e. refl; opens = λ was. refl; stands = λ heads id e is. rw is refl }
changing kinds.BlobMeta is = record { begins = refl; closes = refl; own = omega arith; is_plain = λ s place r mark. refl; waiting = λ s b id e. refl; opens = λ was. refl; stands = λ heads id e is. rw is refl }
changing kinds.InlineNode is = record { begins = refl; closes = refl; own = omega arith; is_plain = λ s place r mark. refl; waiting = λ s b id e. refl; opens = λ was. refl; stands = λ heads id e is. rw is refl }
changing kinds.BlobNode is = record { begins = refl; closes = refl; own = omega arith; is_plain = λ s place r mark. refl; waiting = λ s b id e. refl; opens = λ was. refl; stands = λ heads id e is. rw is refl }
changing kinds.InlineLink is = record { begins = refl; closes = refl; own = omega arith; is_plain = λ s place r mark. refl; waiting = λ s b id e. refl; opens = λ was. refl; stands = λ heads id e is. rw is refl }
changing kinds.BlobLink is = record { begins = refl; closes = refl; own = omega arith; is_plain = λ s place r mark. refl; waiting = λ s b id e. refl; opens = λ was. refl; stands = λ heads id e is. rw is refl }
changing kinds.Corrupted is = absurd cc
changing kinds.Canceled is = absurd cc
changing kinds.Cap is = absurd cc
changing kinds.BatchManifest is = absurd cc

pub can-change : (kind : MessageKind) (heads : chains) (id : ℕ) → can_append effect_of_head heads id kind ≡ true → is_changing (log_kind_of kind) ≡ true
can-change kinds.Free heads id can = refl
can-change kinds.Counter heads id can = refl
can-change kinds.InlineMeta heads id can = refl
can-change kinds.InlineNode heads id can = refl
can-change kinds.InlineLink heads id can = refl
can-change kinds.BlobMeta heads id can = absurd cc
can-change kinds.BlobNode heads id can = absurd cc
can-change kinds.BlobLink heads id can = absurd cc
can-change kinds.Corrupted heads id can = absurd cc
can-change kinds.Canceled heads id can = absurd cc
can-change kinds.Cap heads id can = absurd cc
can-change kinds.BatchManifest heads id can = absurd cc

abbrev pub record_of : MessageKind → ℕ → List ℕ → Record
record_of kind pid payload = record { kind = byte_of kind; id = pid; payload = payload }

pub change-taken : (last : Read) (batch : Option ℕ) (place : ℕ) (kind : MessageKind) (pid : ℕ) (payload : List ℕ) (heads then_heads : chains) → begins_at batch last.begun ≡ true → chains_now last ≡ Some heads → IsChange kind
    → step_head heads pid (record { kind = kind; place = place; len = length payload }) ≡ Some then_heads → IsTaken last batch place (record_of kind pid payload) false then_heads
unfolding step
change-taken last batch place kind pid payload heads then_heads ends now is made = by last.begun refl ends now
  where
    head : Head
    head = record { kind = kind; place = place; len = length payload }

    same : head_at place (record_of kind pid payload) ≡ record { kind = kind; place = place; len = length payload }
    same = ap (λ k. record { kind = k; place = place; len = length payload }) (kind_of_byte_of kind)

    taking : takes heads pid (record { kind = kind; place = place; len = length payload }) ≡ Some then_heads
    taking = sym (is.stands heads pid (record { kind = kind; place = place; len = length payload }) refl) ∙ made

    by : (begun : Option (Begun Head)) → last.begun ≡ begun → begins_at batch begun ≡ true → taken head_at takes last.settled (inside_of begun) ≡ Some heads → IsTaken last batch place (record_of kind pid payload) false then_heads
    by None none ends now =
        let settled : last.settled ≡ heads = cc in
        let went : turn_by head_at takes None last.settled place (record_of kind pid payload) false ≡ Some (outside then_heads) =
        rw is.begins (
        ap (λ k. plain head_at takes k last.settled place (record_of kind pid payload) false) (kind_of_byte_of kind)
        ∙ is.is_plain last.settled place (record_of kind pid payload) false
        ∙ ap (λ (e : Head). takes last.settled pid e >>= λ t. Some (outside t)) same
        ∙ ap (λ (l : chains). takes l pid (record { kind = kind; place = place; len = length payload }) >>= λ t. Some (outside t)) settled
        ∙ ap (λ (x : Option chains). x >>= λ t. Some (outside t)) taking) in
        record { next = outside then_heads; taken = ap (λ (b : Option (Begun Head)). turn_by head_at takes b last.settled place (record_of kind pid payload) false) none ∙ went; ends = ends; all = refl }
    by (Some b) some ends now =
        let next : Read = within last.settled b.place (b.inside ++ (pid, record { kind = kind; place = place; len = length payload }) ∷ []) in
        let went : turn_by head_at takes (Some b) last.settled place (record_of kind pid payload) false ≡ Some next =
        rw is.closes (
        ap (λ k. waits head_at takes (log_kind_of k) last.settled b pid (head_at place (record_of kind pid payload))) (kind_of_byte_of kind)
        ∙ is.waiting last.settled b pid (head_at place (record_of kind pid payload))
        ∙ ap (λ (e : Head). Some (within last.settled b.place (b.inside ++ (pid, e) ∷ []))) same) in
        record {
          next = next;
          taken = ap (λ (b : Option (Begun Head)). turn_by head_at takes b last.settled place (record_of kind pid payload) false) some ∙ went;
          ends = ends_by batch b ends;
          all = taken-more last.settled heads then_heads b.inside pid (record { kind = kind; place = place; len = length payload }) now taking;
        }
      where
        ends_by : (batch : Option ℕ) (b : Begun Head) → begins_at batch (Some b) ≡ true → begins_at batch (Some (record { place = b.place; inside = b.inside ++ (pid, record { kind = kind; place = place; len = length payload }) ∷ [] })) ≡ true
        ends_by None b h = absurd cc
        ends_by (Some place) b h = h

-- ---- the records of a batch

pub begin-taken : (last : Read) (place : ℕ) (heads : chains) → begins_at None last.begun ≡ true → chains_now last ≡ Some heads → IsTaken last (Some place) place begin_record false heads
unfolding step
begin-taken last place heads ends now = by last.begun refl ends now
  where
    by : (begun : Option (Begun Head)) → last.begun ≡ begun → begins_at None begun ≡ true → taken head_at takes last.settled (inside_of begun) ≡ Some heads → IsTaken last (Some place) place begin_record false heads
    by None none ends now =
        let went : turn_by head_at takes None last.settled place begin_record false ≡ Some (within last.settled place []) = refl in
        record { next = within last.settled place []; taken = ap (λ (b : Option (Begun Head)). turn_by head_at takes b last.settled place begin_record false) none ∙ went; ends = eq-eqb place place refl; all = now }
    by (Some b) some ends now = absurd cc

pub closes-from : (begin : ℕ) (kind : ℕ) → begin < 2 ^ 64 → closes_from begin (closing_record kind begin) ≡ true
closes-from begin kind small = rw (number_bytes-length begin, number-again begin small, eq-eqb begin begin refl) refl

pub closing-taken : (last : Read) (begin place kind : ℕ) (heads : chains) → begin < 2 ^ 64 → is_closing kind ≡ true → kind == 14 ≡ false → begins_at (Some begin) last.begun ≡ true → chains_now last ≡ Some heads → IsTaken last None place (closing_record kind begin) false heads
unfolding step
closing-taken last begin place kind heads small closing kept ends now = by last.begun refl ends now
  where
    by : (begun : Option (Begun Head)) → last.begun ≡ begun → begins_at (Some begin) begun ≡ true → taken head_at takes last.settled (inside_of begun) ≡ Some heads → IsTaken last None place (closing_record kind begin) false heads
    by None none ends now = absurd cc
    by (Some b) some ends now =
        let at : b.place ≡ begin = eqb-true b.place begin ends in
        let went : turn_by head_at takes (Some b) last.settled place (closing_record kind begin) false ≡ Some (outside heads) =
        rw (closing, ap (λ n. closes_from n (closing_record kind begin)) at ∙ closes-from begin kind small, kept) (ap (λ (x : Option chains). x >>= λ t. Some (outside t)) now) in
        record { next = outside heads; taken = ap (λ (b : Option (Begun Head)). turn_by head_at takes b last.settled place (closing_record kind begin) false) some ∙ went; ends = refl; all = refl }
