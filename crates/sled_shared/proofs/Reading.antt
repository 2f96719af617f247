-- What the reads of one call are, by how far they came.
use Rattle.std.proofs.Common.{ℕ, ◌≡◌, ◌+◌, ◌<◌, ◌≤◌, List, [], ◌∷◌, ◌++◌, Option, None, Some, Ok, Err, length, length-append, get_or, take, drop, refl, sym, ◌∙◌, ap, subst}
use Rattle.std.proofs.lemmas.List.{drop_more, take-append-drop, take_all, take_more}
use Rattle.std.specs.Global.{Box}
use Rattle.sled_base.specs.declared.types.Error.{Error}
use Rattle.sled_log.specs.declared.log.Log.{Ghosts}
use Rattle.sled_node.specs.Node.{WholeNode}
use Rattle.sled_pagecache.specs.Cache.{Cache}
use Rattle.sled_pagecache.specs.Inside.SequenceLaws.{made-more}
use Rattle.sled_pagecache.specs.Rows.{AreMade, IsMade}
use Rattle.sled_pagecache.specs.Trees.{MadeCalls}
use Rattle.sled_pagecache.specs.declared.pagecache.handles.call.Answer.TheVariants.{Got}
use Rattle.sled_pagecache.specs.declared.pagecache.handles.call.Call.TheVariants.{Get}
use Rattle.sled_shared.specs.Calls.{AreReads, Found}
use Rattle.sled_shared.specs.Kept.{all_found, found_kept, node_kept}

abbrev pub Stored : Type 0
Stored = List (Option (ℕ × Box WholeNode))

-- ---- reads in a row

-- one page more was read
reads-more : (done : List ℕ) (answers : List Found) (calls : MadeCalls) (pid : ℕ) (answer : Found) → AreReads done (Ok tt) answers calls
    → AreReads (done ++ pid ∷ []) (Ok tt) (answers ++ answer ∷ []) (calls ++ (Get pid, Got (Ok answer)) ∷ [])
reads-more [] [] calls pid answer none = ([], ap (λ (l : MadeCalls). l ++ (Get pid, Got (Ok answer)) ∷ []) none, refl)
reads-more [] (first ∷ answers) calls pid answer made = absurd made
reads-more (page ∷ done) [] calls pid answer made = absurd made
reads-more (page ∷ done) (first ∷ answers) calls pid answer (rest, is, made) =
    (rest ++ (Get pid, Got (Ok answer)) ∷ [], ap (λ (l : MadeCalls). l ++ (Get pid, Got (Ok answer)) ∷ []) is, reads-more done answers rest pid answer made)

-- one failed
reads-failed : (done : List ℕ) (answers : List Found) (calls : MadeCalls) (pid : ℕ) (behind : List ℕ) (e : Error) → AreReads done (Ok tt) answers calls
    → AreReads (done ++ pid ∷ behind) (Err e) answers (calls ++ (Get pid, Got (Err e)) ∷ [])
reads-failed [] [] calls pid behind e none = ap (λ (l : MadeCalls). l ++ (Get pid, Got (Err e)) ∷ []) none
reads-failed [] (first ∷ answers) calls pid behind e made = absurd made
reads-failed (page ∷ done) [] calls pid behind e made = absurd made
reads-failed (page ∷ done) (first ∷ answers) calls pid behind e (rest, is, made) =
    (rest ++ (Get pid, Got (Err e)) ∷ [], ap (λ (l : MadeCalls). l ++ (Get pid, Got (Err e)) ∷ []) is, reads-failed done answers rest pid behind e made)

-- ---- what is stored of them

-- of one page, as its own call stores it
pub found-kept : (pid : ℕ) (one : Option (ℕ × Box WholeNode)) (found : Found) → found_kept pid one ≡ found → node_kept pid (Ok one) ≡ Ok found
found-kept pid None found is = ap Ok is
found-kept pid (Some (stamp, node)) found is = ap Ok is

found-more : (done : List ℕ) (found : Stored) (pid : ℕ) (one : Option (ℕ × Box WholeNode)) → length found ≡ length done
    → all_found (done ++ pid ∷ []) (found ++ one ∷ []) ≡ all_found done found ++ found_kept pid one ∷ []
found-more [] [] pid one many = refl
found-more [] (first ∷ found) pid one many = absurd cc
found-more (page ∷ done) [] pid one many = absurd cc
found-more (page ∷ done) (first ∷ found) pid one many = ap (λ (l : List Found). found_kept page first ∷ l) (found-more done found pid one cc)

-- whatever pages come behind
found-tells : (done behind : List ℕ) (found : Stored) → length found ≡ length done → all_found (done ++ behind) found ≡ all_found done found
found-tells [] [] [] many = refl
found-tells [] (page ∷ behind) [] many = refl
found-tells [] behind (first ∷ found) many = absurd cc
found-tells (page ∷ done) behind [] many = absurd cc
found-tells (page ∷ done) behind (first ∷ found) many = ap (λ (l : List Found). found_kept page first ∷ l) (found-tells done behind found cc)

module _ {L : Type 0} (g : Ghosts L) where
  -- so many of the pages were read, with these answers
  pub record ReadSo (pages : List ℕ) (i : ℕ) (answers : List Found) (found : Stored) (old new : Cache L) : Type 0 where
    pub calls : MadeCalls
    pub many : length found ≡ length (take i pages)
    pub are : AreReads (take i pages) (Ok tt) answers calls
    pub kept : all_found (take i pages) found ≡ answers
    pub made : AreMade g old calls new

  pub read-none : (pages : List ℕ) (answers : List Found) (found : Stored) (old : Cache L) → answers ≡ [] → found ≡ [] → ReadSo pages 0 answers found old old
  read-none pages answers found old none empty = record {
    calls = [];
    many = ap (λ (l : Stored). length l) empty;
    are = subst (λ (l : List Found). AreReads [] (Ok tt) l []) (sym none) refl;
    kept = sym none;
    made = refl;
  }

  module _ (pages : List ℕ) (i : ℕ) (answers : List Found) (found : Stored) (old mid new : Cache L) (so : ReadSo pages i answers found old mid) (below : i < length pages) where
    abbrev pid : ℕ
    pid = get_or pages i 0

    next : take (i + 1) pages ≡ take i pages ++ pid ∷ []
    next = take_more pages i 0 below

    parts : pages ≡ take i pages ++ pid ∷ drop (i + 1) pages
    parts = sym (take-append-drop i pages) ∙ ap (λ (l : List ℕ). take i pages ++ l) (drop_more pages i 0 below)

    pub read-more : (longer : List Found) (further : Stored) (answer : Found) (one : Option (ℕ × Box WholeNode))
        → longer ≡ answers ++ answer ∷ [] → further ≡ found ++ one ∷ [] → found_kept pid one ≡ answer → IsMade g mid (Get pid) (Got (Ok answer)) new → ReadSo pages (i + 1) longer further old new
    read-more longer further answer one more on is last =
        let calls : MadeCalls = so.calls ++ (Get pid, Got (Ok answer)) ∷ [] in
        record {
          calls = calls;
          many = ap (λ (l : Stored). length l) on ∙ length-append found (one ∷ []) ∙ ap (λ (n : ℕ). n + 1) so.many ∙ sym (length-append (take i pages) (pid ∷ [])) ∙ ap (λ (l : List ℕ). length l) (sym next);
          are = subst (λ (l : List ℕ). AreReads l (Ok tt) longer calls) (sym next) (subst (λ (l : List Found). AreReads (take i pages ++ pid ∷ []) (Ok tt) l calls) (sym more) (reads-more (take i pages) answers so.calls pid answer so.are));
          kept =
              ap (λ (l : List ℕ). all_found l further) next ∙ ap (λ (l : Stored). all_found (take i pages ++ pid ∷ []) l) on ∙ found-more (take i pages) found pid one so.many
              ∙ ap (λ (l : List Found). l ++ found_kept pid one ∷ []) so.kept ∙ ap (λ (a : Found). answers ++ a ∷ []) is ∙ sym more;
          made = made-more g old mid new so.calls (Get pid) (Got (Ok answer)) so.made last;
        }

    pub read-failed : (e : Error) → IsMade g mid (Get pid) (Got (Err e)) new → (calls : MadeCalls) × AreReads pages (Err e) answers calls × AreMade g old calls new
    read-failed e last = (
      so.calls ++ (Get pid, Got (Err e)) ∷ [],
      subst (λ (l : List ℕ). AreReads l (Err e) answers (so.calls ++ (Get pid, Got (Err e)) ∷ [])) (sym parts) (reads-failed (take i pages) answers so.calls pid (drop (i + 1) pages) e so.are),
      made-more g old mid new so.calls (Get pid) (Got (Err e)) so.made last,
    )

  pub read-tells : (pages : List ℕ) (i : ℕ) (answers : List Found) (found : Stored) (old new : Cache L) → ReadSo pages i answers found old new → all_found pages found ≡ answers
  read-tells pages i answers found old new so =
      ap (λ (l : List ℕ). all_found l found) (sym (take-append-drop i pages)) ∙ found-tells (take i pages) (drop i pages) found so.many ∙ so.kept

  pub read-all : (pages : List ℕ) (i : ℕ) (answers : List Found) (found : Stored) (old new : Cache L) → ReadSo pages i answers found old new → length pages ≤ i
      → (calls : MadeCalls) × AreReads pages (Ok tt) answers calls × AreMade g old calls new
  read-all pages i answers found old new so last = (so.calls, subst (λ (l : List ℕ). AreReads l (Ok tt) answers so.calls) (take_all i pages last) so.are, so.made)
