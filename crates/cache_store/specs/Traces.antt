-- Tracing that does nothing: each type has one value.
use Rattle.cache_store.specs.declared.trace.Tag.{Tag}
use Rattle.cache_store.specs.declared.trace.Span.{Span}
use Rattle.cache_store.specs.declared.trace.SpanHandle.{SpanHandle}
use Rattle.cache_store.specs.declared.trace.SpanOptionsPlaceholder.{SpanOptionsPlaceholder}
use Rattle.cache_store.specs.declared.trace.CacheTraceCTX.{CacheTraceCTX}

abbrev pub no_tag : Tag
no_tag = record { nothing = tt }

abbrev pub no_span : Span
no_span = record { nothing = tt }

abbrev pub no_handle : SpanHandle
no_handle = record { nothing = tt }

abbrev pub no_options : SpanOptionsPlaceholder
no_options = record { nothing = tt }

abbrev pub no_spans : CacheTraceCTX
no_spans = record { cache_span = no_span; miss_span = no_span; hit_span = no_span }
