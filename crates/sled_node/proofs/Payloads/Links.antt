-- Where no link is read.
use Rattle.std.proofs.Common.{◌≡◌, ◌≢◌, ℕ, ◌≤◌, List, [], ◌∷◌, length, get_or, inl, inr, sym, subst, arith}
use Rattle.sled_base.specs.Order.{Bytes}
use Rattle.sled_node.specs.declared.node.link.Link.TheVariants.{Set, Del, ParentMergeIntention}
use Rattle.sled_base.specs.Payloads.Reading.{ReadsPair, AsksPair, ReadsNoValue}
use Rattle.sled_base.specs.Payloads.Numbers.{ReadsU64}
use Rattle.sled_node.specs.Payloads.ShortStrings.{ReadsShort, AsksShort}
use Rattle.sled_node.specs.Payloads.Links.{ReadsLink, AsksLink}
use Rattle.sled_base.specs.Payloads.ReadingLaws.{Pair-grammar, behind, first}
use Rattle.sled_node.specs.Payloads.LinkLaws.{tag_is}
use Rattle.sled_node.specs.Payloads.ShortStringLaws.{Short-grammar}
use Rattle.sled_base.proofs.Payloads.Refusals.{rest_of, behind_first, no_tagged}

module _ (input : List ℕ) (long : 1 ≤ length input) where
  pub no_set : get_or input 0 0 ≡ 0 → ReadsNoValue (ReadsPair ReadsShort ReadsShort) (rest_of input) → ReadsNoValue ReadsLink input
  no_set is nothing (Set key value) rest found = no_tagged (ReadsPair ReadsShort ReadsShort) 0 input long is nothing (key, value) rest found
  no_set is nothing link rest found = absurd (omega (arith, tag_is input link rest found, first input 0 (rest_of input) (behind_first input 0 long is)))

  pub no_del : get_or input 0 0 ≡ 1 → ReadsNoValue ReadsShort (rest_of input) → ReadsNoValue ReadsLink input
  no_del is nothing (Del key) rest found = no_tagged ReadsShort 1 input long is nothing key rest found
  no_del is nothing link rest found = absurd (omega (arith, tag_is input link rest found, first input 1 (rest_of input) (behind_first input 1 long is)))

  pub no_intention : get_or input 0 0 ≡ 2 → ReadsNoValue ReadsU64 (rest_of input) → ReadsNoValue ReadsLink input
  no_intention is nothing (ParentMergeIntention page) rest found = no_tagged ReadsU64 2 input long is nothing page rest found
  no_intention is nothing link rest found = absurd (omega (arith, tag_is input link rest found, first input 2 (rest_of input) (behind_first input 2 long is)))

  -- ---- where memory is asked for

  pub asks_set : get_or input 0 0 ≡ 0 → AsksPair AsksShort ReadsShort AsksShort (rest_of input) → AsksLink input
  asks_set is asks = (rest_of input, inl (behind_first input 0 long is, asks))

  pub asks_del : get_or input 0 0 ≡ 1 → AsksShort (rest_of input) → AsksLink input
  asks_del is asks = (rest_of input, inr (behind_first input 1 long is, asks))

-- ---- where no link that sets a pair is the whole payload

module _ (payload pair : List ℕ) (is : payload ≡ 0 ∷ pair) where
  set_parts : (key value : Bytes) → ReadsLink payload (Set key value) [] → ReadsPair ReadsShort ReadsShort pair (key, value) []
  set_parts key value (parts, also, read) = subst (λ text. ReadsPair ReadsShort ReadsShort text (key, value) []) (behind 0 payload parts pair also is) read

  pub no_set_key : ReadsNoValue ReadsShort pair → (key value : Bytes) → ReadsLink payload (Set key value) [] → ⊥
  no_set_key nothing key value found = let parts = set_parts key value found in nothing key parts.0 parts.1

  module _ (key rest : List ℕ) (read : ReadsShort pair key rest) where
    pub no_set_value : ReadsNoValue ReadsShort rest → (k v : Bytes) → ReadsLink payload (Set k v) [] → ⊥
    no_set_value nothing k v found =
        let parts = set_parts k v found in
        nothing v [] (subst (λ text. ReadsShort text v []) (sym (Short-grammar.one_reading pair key k rest parts.0 read parts.1).1) parts.2)

    -- something follows the value
    pub no_set_end : (value more : List ℕ) → ReadsShort rest value more → more ≢ [] → (k v : Bytes) → ReadsLink payload (Set k v) [] → ⊥
    no_set_end value more next some k v found =
        some ((Pair-grammar Short-grammar Short-grammar).one_reading pair (key, value) (k, v) more [] (rest, read, next) (set_parts k v found)).1
