mod SmallMarket
mod Spans
mod Tables
