-- The kind of a page as the table stores it.
use Rattle.sled_pagecache.specs.declared.pagecache.table.page_entry.PageContent.{PageContent}
use Rattle.sled_pagecache.specs.declared.pagecache.table.page_entry.PageContent.TheVariants as page_content
use Rattle.sled_pagecache.specs.declared.pagecache.table.page_entry.Page.{Page}
use Rattle.sled_pagecache.specs.declared.pagecache.handles.shape.Kind.{Kind}
use Rattle.sled_pagecache.specs.declared.pagecache.handles.shape.Kind.TheVariants as kinds
use Rattle.sled_pagecache.specs.declared.pagecache.handles.shape.PageShape.{PageShape}

abbrev pub kind_of_page_content : PageContent → Kind
kind_of_page_content page_content.Free = kinds.Free
kind_of_page_content (page_content.Counter n) = kinds.Counter
kind_of_page_content (page_content.Roots roots) = kinds.Roots
kind_of_page_content (page_content.Node node) = kinds.Node
kind_of_page_content page_content.OnLog = kinds.Node

abbrev pub shape_of_entry : Page → PageShape
shape_of_entry page = record { stamp = page.stamp; kind = kind_of_page_content page.kept }
