mod Numbers
mod Found
mod LineRows
mod LineWalk
mod LineLaws
