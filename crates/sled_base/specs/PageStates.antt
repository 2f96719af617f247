-- What a log knows about a page.
use Rattle.sled_base.specs.declared.types.page_state.PageState.{PageState}
use Rattle.sled_base.specs.declared.types.page_state.PageState.TheVariants.{Present, Free}

abbrev pub IsFreed : PageState → Type 0
IsFreed (Present base frags) = ⊥
IsFreed (Free lsn pointer) = Unit {0}
