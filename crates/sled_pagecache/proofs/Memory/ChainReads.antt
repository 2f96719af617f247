-- The chain of a page whose places are kept, and what reading it found.
use Rattle.sled_pagecache.proofs.Names.{◌≡◌, ◌+◌, ℕ, zero, suc, ℤ, List, [], length, map, get_or, sym, ◌∙◌, ap, arith, add-one, zero-add, pos, get_or-map, length-map, Inline, one_more, Entry, message, said_of, IsAt, place_of, count_after, CacheInfo, ◌-◌, ◌<◌, take, drop, take_all, length-drop, get_or_after_one}
use Rattle.sled_base.specs.declared.kinds.MessageKind.TheVariants as kinds

-- one more after so many more
pub more-next : (times count : ℕ) → one_more (count_after times count) ≡ count_after (times + 1) count
more-next times count = ap (λ n. count_after n count) (sym (add-one times))

-- so many more, and so many more
pub more-add : (times before count : ℕ) → count_after times (count_after before count) ≡ count_after (times + before) count
more-add zero before count = ap (λ n. count_after n count) (sym (zero-add before))
more-add (suc times) before count =
    let next : suc (times + before) ≡ suc times + before = omega arith in
    ap one_more (more-add times before count) ∙ ap (λ n. count_after n count) next

-- an info that says nothing
abbrev pub no_info : CacheInfo
no_info = record { ts = 0; lsn = pos 0; pointer = Inline 0; log_size = 0 }

-- some entry that is kept there
abbrev pub entry_at : CacheInfo → Entry
entry_at info = record { message = message kinds.Free []; place = record { lsn = info.lsn; pointer = info.pointer; log_size = info.log_size } }

-- the infos behind the first
pub info-after : (infos : List CacheInfo) (i : ℕ) → get_or (take (length infos - 1) (drop 1 infos)) i no_info ≡ get_or infos (i + 1) no_info
info-after infos i =
    ap (λ (l : List CacheInfo). get_or l i no_info) (take_all (length infos - 1) (drop 1 infos) (omega (arith, length-drop 1 infos)))
    ∙ get_or_after_one infos i no_info ∙ ap (λ n. get_or infos n no_info) (let e : 1 + i ≡ i + 1 = omega arith in e)

pub within-after : (infos : List CacheInfo) (i : ℕ) → i < length (take (length infos - 1) (drop 1 infos)) → i + 1 < length infos
within-after infos i lt =
    let all = take_all (length infos - 1) (drop 1 infos) (omega (arith, length-drop 1 infos)) in
    grind (arith, length-drop 1 infos, all)

module _ (chain : List Entry) (infos : List CacheInfo) (known : map said_of chain ≡ map place_of infos) where
  pub length-known : length chain ≡ length infos
  length-known = sym (length-map chain said_of) ∙ ap length known ∙ length-map infos place_of

  -- the entry stands where its page keeps it
  pub is_at : (i : ℕ) (info : CacheInfo) (lsn : ℤ) → lsn ≡ (get_or infos i info).lsn → IsAt lsn (get_or infos i info).pointer (get_or chain i (entry_at info))
  is_at i info lsn is = grind (arith, is, known, get_or-map said_of chain i (entry_at info), get_or-map place_of infos i info)
